-- K-PKE (FIPS 203 section 5), for k = 3, du = 10 and dv = 4, which are the parameters of ML-KEM-768 (section 8).

use Rattle.std.specs.Prelude.{ℕ, ◌+◌, List, [], ◌∷◌, ◌++◌, drop, replicate, take}
use Rattle.sshkeccak.specs.Sponge.{sha3_512}
use Rattle.sshmlkem.specs.Codec.{decode_1, decode_10, decode_12, decode_4, encode_1, encode_10, encode_12, encode_4}
use Rattle.sshmlkem.specs.Ntt.{add, add_product, inverse_ntt, ntt, subtract}
use Rattle.sshmlkem.specs.Sample.{noise, sample_ntt}
use Rattle.sshmlkem.specs.declared.pke.PkeKeys.{PkeKeys}
use Rattle.sshmlkem.specs.declared.pke.Vector.{Vector}

-- the inner product of two vectors of transforms (section 2.4.7)
unfoldable pub dot : Vector → Vector → List ℕ
dot f g = add_product (add_product (add_product (replicate 256 0) f.first g.first) f.second g.second) f.third g.third

-- row i of the matrix A that rho gives: entry (i, j) is SampleNTT of rho, j and i (algorithm 13, lines 3 to 7)
unfoldable pub row : List ℕ → ℕ → Vector
row rho i = record { first = sample_ntt rho 0 i; second = sample_ntt rho 1 i; third = sample_ntt rho 2 i }

-- column i of that matrix, which is row i of its transpose (algorithm 14, lines 4 to 8 and 19)
unfoldable pub column : List ℕ → ℕ → Vector
column rho i = record { first = sample_ntt rho i 0; second = sample_ntt rho i 1; third = sample_ntt rho i 2 }

-- three polynomials of small numbers, for N = n, n + 1 and n + 2 (algorithm 13, lines 8 to 11)
unfoldable pub noises : List ℕ → ℕ → Vector
noises seed n = record { first = noise seed n; second = noise seed (n + 1); third = noise seed (n + 2) }

-- the transform of each polynomial of a vector
unfoldable pub ntts : Vector → Vector
ntts f = record { first = ntt f.first; second = ntt f.second; third = ntt f.third }

-- ByteEncode_12 of each polynomial of a vector, one after the other
unfoldable pub encode_vector : Vector → List ℕ
encode_vector f = (encode_12 f.first ++ encode_12 f.second) ++ encode_12 f.third

-- ByteDecode_12 of three times 384 bytes
unfoldable pub decode_vector : List ℕ → Vector
decode_vector bytes =
    record { first = decode_12 (take 384 bytes); second = decode_12 (take 384 (drop 384 bytes)); third = decode_12 (drop 384 (drop 384 bytes)) }

-- number i of t: row i times s, plus its error (algorithm 13, line 18)
unfoldable pub row_sum : List ℕ → ℕ → Vector → List ℕ → List ℕ
row_sum rho i s error = add (dot (row rho i) s) error

-- K-PKE.KeyGen (algorithm 13)
unfoldable pub pke_keys : List ℕ → PkeKeys
pke_keys d =
    let seeds = sha3_512 (d ++ 3 ∷ []) in
    let rho = take 32 seeds in
    let sigma = drop 32 seeds in
    let s = ntts (noises sigma 0) in
    let e = ntts (noises sigma 3) in
    let t : Vector = record { first = row_sum rho 0 s e.first; second = row_sum rho 1 s e.second; third = row_sum rho 2 s e.third } in
    record { encryption_key = encode_vector t ++ rho; decryption_key = encode_vector s }

-- part i of c1: number i of u, compressed and encoded (algorithm 14, lines 19 and 22)
unfoldable pub masked : List ℕ → Vector → ℕ → List ℕ → List ℕ
masked rho y i error = encode_10 (add (inverse_ntt (dot (column rho i) y)) error)

-- c2: v, compressed and encoded (algorithm 14, lines 20, 21 and 23)
unfoldable pub last_part : Vector → Vector → List ℕ → List ℕ → List ℕ
last_part t y error message = encode_4 (add (add (inverse_ntt (dot t y)) error) (decode_1 message))

-- K-PKE.Encrypt (algorithm 14)
unfoldable pub encrypted : List ℕ → List ℕ → List ℕ → List ℕ
encrypted key message seed =
    let rho = drop 1152 key in
    let y = ntts (noises seed 0) in
    let e = noises seed 3 in
    ((masked rho y 0 e.first ++ masked rho y 1 e.second) ++ masked rho y 2 e.third)
    ++ last_part (decode_vector (take 1152 key)) y (noise seed 6) message

-- K-PKE.Decrypt (algorithm 15)
unfoldable pub decrypted : List ℕ → List ℕ → List ℕ
decrypted key ciphertext =
    let u : Vector = record {
      first = decode_10 (take 320 ciphertext);
      second = decode_10 (take 320 (drop 320 ciphertext));
      third = decode_10 (take 320 (drop 320 (drop 320 ciphertext)));
    } in
    encode_1 (subtract (decode_4 (drop 320 (drop 320 (drop 320 ciphertext)))) (inverse_ntt (dot (decode_vector key) (ntts u))))

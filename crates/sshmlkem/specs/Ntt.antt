-- The number-theoretic transform and products of transforms (FIPS 203 section 4.3). A polynomial is a list of its 256 coefficients. The pairs of
-- a layer are numbered by k from 0 to 127, in the order of algorithms 9 and 10: each block has 2^s pairs, whose numbers are 2^s apart.
-- FIPS 203 has two loops in place of k: `NttLoops.antt` has those, and the law of the transform says that both are the same.

use Rattle.std.specs.Prelude.{ℕ, ◌+◌, ◌-◌, ◌*◌, ◌/◌, ◌^◌, List, [], ◌∷◌, slice_index, slice_set}
use Rattle.sshkeccak.specs.Repeated.{repeated}
use Rattle.sshmlkem.specs.Field.{difference, product, sum}

-- 17 to the power BitRev7(i), modulo q (appendix A)
abbrev pub zetas : List ℕ
zetas =
    1 ∷ 1729 ∷ 2580 ∷ 3289 ∷ 2642 ∷ 630 ∷ 1897 ∷ 848 ∷ 1062 ∷ 1919 ∷ 193 ∷ 797 ∷ 2786 ∷ 3260 ∷ 569 ∷ 1746
    ∷ 296 ∷ 2447 ∷ 1339 ∷ 1476 ∷ 3046 ∷ 56 ∷ 2240 ∷ 1333 ∷ 1426 ∷ 2094 ∷ 535 ∷ 2882 ∷ 2393 ∷ 2879 ∷ 1974 ∷ 821
    ∷ 289 ∷ 331 ∷ 3253 ∷ 1756 ∷ 1197 ∷ 2304 ∷ 2277 ∷ 2055 ∷ 650 ∷ 1977 ∷ 2513 ∷ 632 ∷ 2865 ∷ 33 ∷ 1320 ∷ 1915
    ∷ 2319 ∷ 1435 ∷ 807 ∷ 452 ∷ 1438 ∷ 2868 ∷ 1534 ∷ 2402 ∷ 2647 ∷ 2617 ∷ 1481 ∷ 648 ∷ 2474 ∷ 3110 ∷ 1227 ∷ 910
    ∷ 17 ∷ 2761 ∷ 583 ∷ 2649 ∷ 1637 ∷ 723 ∷ 2288 ∷ 1100 ∷ 1409 ∷ 2662 ∷ 3281 ∷ 233 ∷ 756 ∷ 2156 ∷ 3015 ∷ 3050
    ∷ 1703 ∷ 1651 ∷ 2789 ∷ 1789 ∷ 1847 ∷ 952 ∷ 1461 ∷ 2687 ∷ 939 ∷ 2308 ∷ 2437 ∷ 2388 ∷ 733 ∷ 2337 ∷ 268 ∷ 641
    ∷ 1584 ∷ 2298 ∷ 2037 ∷ 3220 ∷ 375 ∷ 2549 ∷ 2090 ∷ 1645 ∷ 1063 ∷ 319 ∷ 2773 ∷ 757 ∷ 2099 ∷ 561 ∷ 2466 ∷ 2594
    ∷ 2804 ∷ 1092 ∷ 403 ∷ 1026 ∷ 1143 ∷ 2150 ∷ 2775 ∷ 886 ∷ 1722 ∷ 1212 ∷ 1874 ∷ 1029 ∷ 2110 ∷ 2935 ∷ 885 ∷ 2154 ∷ []

-- 17 to the power 2 BitRev7(i) + 1, modulo q (appendix A)
abbrev pub gammas : List ℕ
gammas =
    17 ∷ 3312 ∷ 2761 ∷ 568 ∷ 583 ∷ 2746 ∷ 2649 ∷ 680 ∷ 1637 ∷ 1692 ∷ 723 ∷ 2606 ∷ 2288 ∷ 1041 ∷ 1100 ∷ 2229
    ∷ 1409 ∷ 1920 ∷ 2662 ∷ 667 ∷ 3281 ∷ 48 ∷ 233 ∷ 3096 ∷ 756 ∷ 2573 ∷ 2156 ∷ 1173 ∷ 3015 ∷ 314 ∷ 3050 ∷ 279
    ∷ 1703 ∷ 1626 ∷ 1651 ∷ 1678 ∷ 2789 ∷ 540 ∷ 1789 ∷ 1540 ∷ 1847 ∷ 1482 ∷ 952 ∷ 2377 ∷ 1461 ∷ 1868 ∷ 2687 ∷ 642
    ∷ 939 ∷ 2390 ∷ 2308 ∷ 1021 ∷ 2437 ∷ 892 ∷ 2388 ∷ 941 ∷ 733 ∷ 2596 ∷ 2337 ∷ 992 ∷ 268 ∷ 3061 ∷ 641 ∷ 2688
    ∷ 1584 ∷ 1745 ∷ 2298 ∷ 1031 ∷ 2037 ∷ 1292 ∷ 3220 ∷ 109 ∷ 375 ∷ 2954 ∷ 2549 ∷ 780 ∷ 2090 ∷ 1239 ∷ 1645 ∷ 1684
    ∷ 1063 ∷ 2266 ∷ 319 ∷ 3010 ∷ 2773 ∷ 556 ∷ 757 ∷ 2572 ∷ 2099 ∷ 1230 ∷ 561 ∷ 2768 ∷ 2466 ∷ 863 ∷ 2594 ∷ 735
    ∷ 2804 ∷ 525 ∷ 1092 ∷ 2237 ∷ 403 ∷ 2926 ∷ 1026 ∷ 2303 ∷ 1143 ∷ 2186 ∷ 2150 ∷ 1179 ∷ 2775 ∷ 554 ∷ 886 ∷ 2443
    ∷ 1722 ∷ 1607 ∷ 1212 ∷ 2117 ∷ 1874 ∷ 1455 ∷ 1029 ∷ 2300 ∷ 2110 ∷ 1219 ∷ 2935 ∷ 394 ∷ 885 ∷ 2444 ∷ 2154 ∷ 1175 ∷ []

-- the index j of the first number of pair k: `start` is k / 2^s * 2^s * 2
unfoldable pub place : ℕ → ℕ → ℕ
place s k = k + k / 2 ^ s * 2 ^ s

-- pair k of a layer, transformed (algorithm 9, lines 8 to 10); `len` is 2^s
unfoldable pub forward_pair : ℕ → List ℕ → ℕ → List ℕ
forward_pair s f k =
    let i = place s k in
    let j = i + 2 ^ s in
    let t = product (slice_index f j) (slice_index zetas (128 / 2 ^ s + k / 2 ^ s)) in
    slice_set (slice_set f j (difference (slice_index f i) t)) i (sum (slice_index f i) t)

-- all pairs of a layer (algorithm 9, lines 4 to 12)
unfoldable pub forward_layer : List ℕ → ℕ → List ℕ
forward_layer f s = repeated (forward_pair s) f 128

-- NTT (algorithm 9): `len` is 128, 64 and on to 2
unfoldable pub ntt : List ℕ → List ℕ
ntt f = forward_layer (forward_layer (forward_layer (forward_layer (forward_layer (forward_layer (forward_layer f 7) 6) 5) 4) 3) 2) 1

-- pair k of a layer of the inverse, transformed (algorithm 10, lines 8 to 10); `len` is 2^s
unfoldable pub backward_pair : ℕ → List ℕ → ℕ → List ℕ
backward_pair s f k =
    let i = place s k in
    let j = i + 2 ^ s in
    let zeta = slice_index zetas (256 / 2 ^ s - 1 - k / 2 ^ s) in
    slice_set (slice_set f i (sum (slice_index f i) (slice_index f j))) j (product (difference (slice_index f j) (slice_index f i)) zeta)

-- all pairs of a layer of the inverse (algorithm 10, lines 4 to 12)
unfoldable pub backward_layer : List ℕ → ℕ → List ℕ
backward_layer f s = repeated (backward_pair s) f 128

-- number i times 3303, the inverse of 128 modulo q
unfoldable pub scaled_at : List ℕ → ℕ → List ℕ
scaled_at f i = slice_set f i (product (slice_index f i) 3303)

-- each number times 3303 (algorithm 10, line 14)
unfoldable pub scaled : List ℕ → List ℕ
scaled f = repeated scaled_at f 256

-- the inverse of NTT (algorithm 10): `len` is 2, 4 and on to 128
unfoldable pub inverse_ntt : List ℕ → List ℕ
inverse_ntt f =
    scaled (backward_layer (backward_layer (backward_layer (backward_layer (backward_layer (backward_layer (backward_layer f 1) 2) 3) 4) 5) 6) 7)

-- h with the numbers 2 i and 2 i + 1 of the product of f and g added (algorithm 12, BaseCaseMultiply)
unfoldable pub with_product : List ℕ → List ℕ → List ℕ → ℕ → List ℕ
with_product f g h i =
    let low = sum (product (slice_index f (2 * i)) (slice_index g (2 * i)))
    (product (product (slice_index f (2 * i + 1)) (slice_index g (2 * i + 1))) (slice_index gammas i)) in
    let high = sum (product (slice_index f (2 * i)) (slice_index g (2 * i + 1))) (product (slice_index f (2 * i + 1)) (slice_index g (2 * i))) in
    let first = slice_set h (2 * i) (sum (slice_index h (2 * i)) low) in
    slice_set first (2 * i + 1) (sum (slice_index h (2 * i + 1)) high)

-- h plus the product of the transforms f and g (algorithm 11, MultiplyNTTs)
unfoldable pub add_product : List ℕ → List ℕ → List ℕ → List ℕ
add_product h f g = repeated (with_product f g) h 128

-- f with number i of g added
unfoldable pub sum_at : List ℕ → List ℕ → ℕ → List ℕ
sum_at g f i = slice_set f i (sum (slice_index f i) (slice_index g i))

-- f plus g, number by number (section 2.4.5)
unfoldable pub add : List ℕ → List ℕ → List ℕ
add f g = repeated (sum_at g) f 256

-- f with number i of g subtracted
unfoldable pub difference_at : List ℕ → List ℕ → ℕ → List ℕ
difference_at g f i = slice_set f i (difference (slice_index f i) (slice_index g i))

-- f less g, number by number (section 2.4.5)
unfoldable pub subtract : List ℕ → List ℕ → List ℕ
subtract f g = repeated (difference_at g) f 256

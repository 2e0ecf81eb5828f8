-- The lines that an endpoint of an accepted config sends first are a preamble of its version.

use Rattle.std.proofs.Common.{◌≡◌, ◌≢◌, ℕ, List, [], ◌∷◌, ◌++◌, length, length-append, map, refl, sym, ap, ◌∙◌, append_assoc, arith}
use Rattle.std.specs.List.{AllByRecursion, flat_map}
use Rattle.sshwire.specs.Lines.{BeginsSsh, IsLineByte, IsOtherLine, Preamble, joined, ssh, version_line, with_lf}
use Rattle.sshneg.specs.declared.side.Side.TheVariants.{Client, Server}
use Rattle.sshcore.specs.declared.config_fault.ConfigFault.TheVariants as fault
use Rattle.sshcore.specs.ConfigParts.{ClientData, ServerData, version_of}
use Rattle.sshcore.specs.ConfigRules.{IsClient, IsNotice, IsNoticeByte, IsServer}
use Rattle.sshcore.specs.Directions.{others_of, preamble_of}
use Rattle.sshcore.specs.EndpointParts.{config_of_client, config_of_server}

-- the bytes of a notice line, with its CR
line_bytes : (line : List ℕ) → AllByRecursion IsNoticeByte line → AllByRecursion IsLineByte (line ++ 13 ∷ [])
line_bytes [] each = (record { no_nul = λ e. omega (arith, e); no_lf = λ e. omega (arith, e) }, tt)
line_bytes (b ∷ line) each =
    let low = each.0.from_space in
    (record { no_nul = λ e. omega (arith, e, low); no_lf = λ e. omega (arith, e, low) }, line_bytes line each.1)

-- a prefix without a CR stands before the CR
before_cr : (p line rest : List ℕ) → AllByRecursion (λ b. b ≢ 13) p → line ++ 13 ∷ [] ≡ p ++ rest → (r : List ℕ) × (line ≡ p ++ r)
before_cr [] line rest none e = (line, refl)
before_cr (q ∷ p) [] rest none e = absurd (none.0 (cc (e)))
before_cr (q ∷ p) (x ∷ line) rest none e =
    let head : x ≡ q = cc (e) in
    let tail : line ++ 13 ∷ [] ≡ p ++ rest = cc (e) in
    let t = before_cr p line rest none.1 tail in
    (t.0, ap (λ (b : ℕ). b ∷ line) head ∙ ap (λ (l : List ℕ). q ∷ l) t.1)

-- so the CR doesn't make a line begin with SSH-
still_no_ssh : (line : List ℕ) → BeginsSsh (line ++ 13 ∷ []) → BeginsSsh line
still_no_ssh line b = before_cr ssh line b.0 ((λ e. omega (arith, e)), ((λ e. omega (arith, e)), ((λ e. omega (arith, e)), ((λ e. omega (arith, e)), tt)))) b.1

other_line : (line : List ℕ) → IsNotice line → IsOtherLine (line ++ 13 ∷ [])
other_line line is = record {
  unfinished = record { bytes = line_bytes line is.bytes; short = let short = is.short in omega (arith, short, length-append line (13 ∷ [])) };
  no_ssh = λ b. is.no_ssh (still_no_ssh line b);
}

other_lines : (lines : List (List ℕ)) → AllByRecursion IsNotice lines → AllByRecursion IsOtherLine (map (λ line. line ++ 13 ∷ []) lines)
other_lines [] each = tt
other_lines (line ∷ lines) each = (other_line line each.0, other_lines lines each.1)

same_lines : (lines : List (List ℕ)) → flat_map version_line lines ≡ joined (map (λ line. line ++ 13 ∷ []) lines)
same_lines [] = refl
same_lines (line ∷ lines) =
    ap (λ (q : List ℕ). q ++ flat_map version_line lines) (sym (append_assoc line (13 ∷ []) (10 ∷ [])))
    ∙ ap (λ (q : List ℕ). with_lf (line ++ 13 ∷ []) ++ q) (same_lines lines)

count_lines : (lines : List (List ℕ)) → length (map (λ line. line ++ 13 ∷ []) lines) ≡ length lines
count_lines [] = refl
count_lines (line ∷ lines) = omega (arith, count_lines lines)

pub client_preamble : (c : ClientData) → IsClient c → Preamble (others_of Server) (version_of c.side) (preamble_of (config_of_client c))
client_preamble c is = record { others = []; few = omega arith; each = tt; version = is.keeps fault.Line; bytes_are = refl }

pub server_preamble : (s : ServerData) → IsServer s → Preamble (others_of Client) (version_of s.side) (preamble_of (config_of_server s))
server_preamble s is =
    let line = is.keeps fault.Line in
    let few = line.1 in
    record {
      others = map (λ line. line ++ 13 ∷ []) s.notices;
      few = omega (arith, count_lines s.notices, few);
      each = other_lines s.notices line.2;
      version = line.0;
      bytes_are = ap (λ (q : List ℕ). q ++ version_line (version_of s.side)) (same_lines s.notices);
    }

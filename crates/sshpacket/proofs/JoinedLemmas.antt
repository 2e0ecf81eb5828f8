-- What is read of packets is packets one after another.

use Rattle.std.proofs.Common.{◌≡◌, ℕ, ◌+◌, ◌≤◌, List, [], ◌∷◌, ◌++◌, length, take, drop, refl, sym, ap, ◌∙◌, subst, arith}
use Rattle.std.proofs.lemmas.List.{length-append, length-take-le, take-append-drop}
use Rattle.std.proofs.Math.Seq.{drop-append_seam, take-append_seam}
use Rattle.sshwire.specs.Types.{IsBytes}
use Rattle.sshpacket.specs.Parse.{Parse, ProtectionData, parse_packet, whole}
use Rattle.sshpacket.specs.Joined.{Joined}
use Rattle.sshpacket.specs.Stream.{Parser, Parsers, Read, Units}
use Rattle.sshpacket.specs.ProtectedPacket.{IsFaithful, IsProtectedPacket, PacketMeans}

module _ (dropped : (n : ℕ) (bytes : List ℕ) → IsBytes bytes → IsBytes (drop n bytes)) (parsers : Parsers) (at : Units → List ℕ → ProtectionData) (v : List ℕ) (size : ℕ) (same : (us : Units) (ns : List ℕ) → parsers (v ∷ us) (size ∷ ns) ≡ parse_packet (at us ns)) (each : (us : Units) (ns : List ℕ) → IsFaithful (at us ns)) where
  pub found : ((w : ProtectionData) (bytes : List ℕ) → IsFaithful w → IsBytes bytes → PacketMeans w bytes (parse_packet w bytes)) → (before : Units) (passed bytes : List ℕ) (ps : Units) (ns rest : List ℕ) → IsBytes bytes → Read parsers (v ∷ before) (size ∷ passed) bytes ps ns rest → Joined at before passed bytes ps rest
  found law before passed bytes [] ns rest b (s, r) = r
  found law before passed bytes (p ∷ ps) ns rest b (len, others, s, e, r) =
      let is : parse_packet (at before passed) bytes ≡ whole p len = sym (ap (λ (parser : Parser). parser bytes) (same before passed)) ∙ e in
      let told : PacketMeans (at before passed) bytes (whole p len) = subst (λ (f : Parse). PacketMeans (at before passed) bytes f) is (law (at before passed) bytes (each before passed) b) in
      let long : length (take len bytes) ≡ len = length-take-le len bytes told.0 in (
        take len bytes,
        drop len bytes,
        sym (take-append-drop len bytes),
        told.1,
        subst (λ (n : ℕ). Joined at (before ++ p ∷ []) (passed ++ n ∷ []) (drop len bytes) ps rest) (sym long)
            (found law (before ++ p ∷ []) (passed ++ len ∷ []) (drop len bytes) ps others rest (dropped len bytes b) r),
      )

  pub only : ((w : ProtectionData) (bytes : List ℕ) → IsFaithful w → IsBytes bytes → (answer : Parse) → PacketMeans w bytes answer → parse_packet w bytes ≡ answer) → (before : Units) (passed bytes : List ℕ) (ps : Units) (rest : List ℕ) → IsBytes bytes → Joined at before passed bytes ps rest → (ns : List ℕ) × Read parsers (v ∷ before) (size ∷ passed) bytes ps ns rest
  only law before passed bytes [] rest b j = ([], (refl, j))
  only law before passed bytes (p ∷ ps) rest b (one, more, e, unit, j) =
      let cut : take (length one) bytes ≡ one = ap (λ (x : List ℕ). take (length one) x) e ∙ take-append_seam one more in
      let after : drop (length one) bytes ≡ more = ap (λ (x : List ℕ). drop (length one) x) e ∙ drop-append_seam one more in
      let both : length bytes ≡ length one + length more = ap (λ (x : List ℕ). length x) e ∙ length-append one more in
      let low : length one ≤ length bytes = omega arith in
      let is : parse_packet (at before passed) bytes ≡ whole p (length one)
      = law (at before passed) bytes (each before passed) b (whole p (length one)) (low, subst (λ (x : List ℕ). IsProtectedPacket (at before passed) p x) (sym cut) unit) in
      let later = only law (before ++ p ∷ []) (passed ++ length one ∷ []) more ps rest (subst IsBytes after (dropped (length one) bytes b)) j in
      let left : Read parsers (v ∷ (before ++ p ∷ [])) (size ∷ (passed ++ length one ∷ [])) more ps later.0 rest = later.1 in (
        length one ∷ later.0,
        (
          length one,
          later.0,
          refl,
          ap (λ (parser : Parser). parser bytes) (same before passed) ∙ is,
          subst (λ (x : List ℕ). Read parsers (v ∷ (before ++ p ∷ [])) (size ∷ (passed ++ length one ∷ [])) x ps later.0 rest) (sym after) left,
        ),
      )

-- The length of a sealed packet.

use Rattle.std.proofs.Common.{◌≡◌, ◌∙◌, ℕ, true, false, List, [], ◌++◌, length, refl, sym, ap, arith}
use Rattle.std.specs.Prelude.{replicate}
use Rattle.sshpacket.specs.KeysData.{KeysData}
use Rattle.sshpacket.specs.Packet.{number}
use Rattle.sshsuite.specs.CipherNames.{is_short_key, keys_by}
use Rattle.sshsuite.specs.CounterMode.{stream_block, stream_to}
use Rattle.sshsuite.specs.Ctr.{counter_of, covers_sealed, head, mask}
use Rattle.sshsuite.specs.GcmLaws.{front_clear}
use Rattle.sshwire.specs.Masks.{length_xored, xored}
use Rattle.sshsuite.specs.SealingLaws.{number_front}

-- where the tag covers what is sealed it stands in clear
pub head_in_clear : (keys : KeysData) (first : List ℕ) → covers_sealed keys.mac ≡ true → length first ≡ 4 → head keys first ≡ number first
unfolding head mask stream_to
head_in_clear keys first covers four =
    let clear : List ℕ = replicate 4 0 ++ [] in
    let long : length (xored first clear) ≡ length first = length_xored first clear in
    rw covers (sym (number_front (xored first clear) (omega (arith, four, long))) ∙ (ap number (front_clear first []) ∙ number_front first (omega (arith, four))))

-- else in the first block
pub head_in_block : (keys : KeysData) (first : List ℕ) → covers_sealed keys.mac ≡ false
    → head keys first ≡ number (xored first (stream_block (keys_by (is_short_key keys.cipher) keys.enc) (counter_of keys.iv) 0))
unfolding head mask stream_to
head_in_block keys first covers = rw covers refl

-- The suite of a reader that has no keys: its answers, of which none is ever asked for, and that they have the laws. Its calls
-- that make a vector answer that memory ran out, so that nothing can be sealed or opened with it.

use Rattle.std.specs.Prelude.{ℕ, zero, suc, true, false, List, [], ◌∷◌, None, Some}
use Rattle.sshpacket.specs.declared.suite.Need.TheVariants.{Signature}
use Rattle.sshwire.specs.declared.share_form.ShareForm.TheVariants.{OctetString}
use Rattle.sshpacket.specs.Packet.{number}
use Rattle.sshpacket.specs.Suite.{SuiteData}

-- so many bytes 0
abbrev pub zeros : ℕ → List ℕ
zeros zero = []
zeros (suc n) = 0 ∷ zeros n

-- The meaning of the suite of a reader in clear: sealing changes nothing, padding is zeros, and nothing is shared or verified. A reader
-- makes none of the calls that need more.
abbrev pub no_suite : SuiteData
no_suite = record {
  need = λ kex. Signature;
  can = λ algorithm. record { signature = false; encryption = false };
  block = λ cipher. 8;
  tag_len = λ cipher mac. 0;
  counts_length = λ cipher mac. true;
  key_lens = λ cipher mac. record { iv = 0; enc = 0; mac = 0 };
  seal = λ keys seq clear. clear;
  head = λ keys seq first. number first;
  unseal = λ keys seq sealed. Some sealed;
  next_iv = λ keys len. keys.iv;
  padding = λ seed seq len. zeros len;
  share_form = λ kex. OctetString;
  share = λ kex random. [];
  shared = λ kex random peer. None;
  respond = λ kex random peer. None;
  digest = λ kex input. 0 ∷ [];
  blob = λ algorithm private_key. [];
  holds = λ algorithm private_key. true;
  sign = λ algorithm private_key input. [];
  verify = λ algorithm blob input signature. false;
}

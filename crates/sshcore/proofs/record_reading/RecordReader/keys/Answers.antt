use Rattle.std.proofs.Common.{◌≡◌, ◌∙◌, List, ℕ, Option, Some, sym}
use Rattle.sshcore.specs.RecordText.{FitsKeys, keys_text}
use Rattle.sshpacket.specs.KeysData.{KeysData}
use Rattle.sshcore.proofs.RecordLemmas.{absent, fits_there, there}
use Rattle.sshcore.proofs.record_reading.RecordReader.keys.Goals as goal

same_keys : (cipher cipher_ : List ℕ) (mac mac_ : List ℕ) (iv iv_ : List ℕ) (enc enc_ : List ℕ) (mac_key mac_key_ : List ℕ) → cipher ≡ cipher_ → mac ≡ mac_ → iv ≡ iv_ → enc ≡ enc_ → mac_key ≡ mac_key_ → ◌≡◌ {A = Option KeysData} (Some (record { cipher = cipher; mac = mac; iv = iv; enc = enc; mac_key = mac_key })) (Some (record { cipher = cipher_; mac = mac_; iv = iv_; enc = enc_; mac_key = mac_key_ }))
same_keys _ _ _ _ _ _ _ _ _ _ e0 e1 e2 e3 e4 = cc

pub returns-then-not-flag : goal.returns-then-not-flag
returns-then-not-flag c = λ x rest fits e.
    absent keys_text c.args.self.now c.flag.new.self c.flag.result c.flag.ensures x rest c.if-not-flag.true e

pub returns : goal.returns
returns c = λ x rest fits e.
    let found = there keys_text c.args.self.now c.flag.new.self c.flag.result c.flag.ensures x rest c.if-not-flag.false e in
    let k = found.0 in
    let f = fits_there FitsKeys x k fits found.1 in
    let cipher = c.bytes-cipher.ensures k.cipher _ f.cipher found.2 in
    let mac = c.bytes-mac.ensures k.mac _ f.mac cipher.1 in
    let iv = c.bytes-iv.ensures k.iv _ f.iv mac.1 in
    let enc = c.bytes-enc.ensures k.enc _ f.enc iv.1 in
    let mac_key = c.bytes-mac_key.ensures k.mac_key _ f.mac_key enc.1 in
    (same_keys _ _ _ _ _ _ _ _ _ _ cipher.0 mac.0 iv.0 enc.0 mac_key.0 ∙ sym found.1, mac_key.1, mac_key.2 ∙ (enc.2 ∙ (iv.2 ∙ (mac.2 ∙ (cipher.2 ∙ found.3)))))

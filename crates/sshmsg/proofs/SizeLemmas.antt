-- How long a payload is, by the parts of its message.

use Rattle.std.proofs.Common.{◌≡◌, ℕ, zero, suc, ◌+◌, Bool, true, false, List, [], ◌∷◌, ◌++◌, length, refl, sym, ap, ◌∙◌, cond, codes, arith}
use Rattle.std.specs.Str.{bytes_eq}
use Rattle.std.proofs.lemmas.List.{length-append}
use Rattle.std.proofs.lemmas.Slice.Eq.{bytes_eq-Decides}
use Rattle.sshwire.specs.declared.share_form.ShareForm.{ShareForm}
use Rattle.sshwire.specs.Types.{BooleanText, boolean, name_list, names_body, string, uint32}
use Rattle.sshmsg.specs.MessageData.{End, ext_info, extensions, Fields, Form, kexinit, KexInitData, layout, MessageData, OfMethod, method_form, MethodData, NoMethod, OfKexInit, OtherMethod, Pairs, Password, password, PasswordChange, PublicKey, publickey, PublicKeyQuery, userauth_request, With}
use Rattle.sshmsg.specs.Form.{BigNumber, Bytes, Cookie, Done, Field, FieldText, FillsForm, Flag, Names, Number, Of, Reserved, Rest, Then, Utf8}
use Rattle.sshmsg.specs.Lengths.{added, all_fixed, all_varying, fixed, method_length, offer_length, pairs_length, payload_length, total, varying}
use Rattle.sshmsg.specs.Messages.{Spells}
use Rattle.sshmsg.specs.Written.{field_written, fields_written, method_fields, offer_written, pairs_written, written_message}
use Rattle.sshmsg.proofs.TableLemmas.{FieldsText, OfLayouts, OfOthers, each_form, laid_out}

-- what is added up one after another is added up at once
added_is : (n : ℕ) (numbers : List ℕ) → added n numbers ≡ n + total numbers
added_is n [] = omega arith
added_is n (m ∷ more) =
    let a : added (n + m) more ≡ n + m + total more = added_is (n + m) more in
    let b : added m more ≡ m + total more = added_is m more in
    omega (arith, a, b)

total_both : (numbers more : List ℕ) → total (numbers ++ more) ≡ total numbers + total more
total_both [] more = omega arith
total_both (n ∷ numbers) more =
    let a : added n (numbers ++ more) ≡ n + total (numbers ++ more) = added_is n (numbers ++ more) in
    let b : total (numbers ++ more) ≡ total numbers + total more = total_both numbers more in
    let c : added n numbers ≡ n + total numbers = added_is n numbers in
    omega (arith, a, b, c)

-- how long a field is, and all fields are
abbrev width : (f : Field) → Of f → ℕ
width f value = total (varying f value) + fixed f

abbrev widths : Fields → ℕ
widths fields = total (all_varying fields) + all_fixed fields

widths_more : (f : Field) (value : Of f) (more : Fields) → widths (With f value more) ≡ width f value + widths more
widths_more f value more =
    let a : total (varying f value ++ all_varying more) ≡ total (varying f value) + total (all_varying more) = total_both (varying f value) (all_varying more) in
    omega (arith, a)

string_long : (bytes : List ℕ) → length (string bytes) ≡ 4 + length bytes
string_long bytes = length-append (uint32 (length bytes)) bytes

uint32_long : (n : ℕ) → length (uint32 n) ≡ 4
uint32_long n = refl

flag_long : (value : Bool) (text : List ℕ) → BooleanText value text → length text ≡ 1
flag_long value [] h = absurd h
flag_long value (b ∷ []) h = refl
flag_long value (b ∷ c ∷ more) h = absurd h

is_string : (bytes text : List ℕ) → text ≡ string bytes → length text ≡ 4 + length bytes
is_string bytes text e = ap (λ (xs : List ℕ). length xs) e ∙ string_long bytes

text_long : (f : Field) (value : Of f) (text : List ℕ) → FieldText f value text → length text ≡ width f value
text_long Flag value text h = flag_long value text h
text_long Number value text h = ap (λ (xs : List ℕ). length xs) h.1 ∙ uint32_long value
text_long Bytes value text h = let a : _ = is_string value text h.1 in omega (arith, a)
text_long Utf8 value text h = let a : _ = is_string value text h.1.1 in omega (arith, a)
text_long BigNumber value text h = let a : _ = is_string value text h.2.1 in omega (arith, a)
text_long Names value text h = let a : _ = is_string (names_body value) text h.1.1 in omega (arith, a)
text_long Cookie value text h = let a : length text ≡ length value = ap (λ (xs : List ℕ). length xs) h.1 in omega (arith, a)
text_long Reserved value text h = h

fields_long : (fields : Fields) (bytes : List ℕ) → FieldsText fields bytes → length bytes ≡ widths fields
fields_long End bytes h = ap (λ (xs : List ℕ). length xs) h
fields_long (With f value more) bytes (text, rest, t, after, parts) =
    let a : length bytes ≡ length (text ++ rest) = ap (λ (xs : List ℕ). length xs) parts in
    let b : length (text ++ rest) ≡ length text + length rest = length-append text rest in
    let c : length text ≡ width f value = text_long f value text t in
    let d : length rest ≡ widths more = fields_long more rest after in
    let e : widths (With f value more) ≡ width f value + widths more = widths_more f value more in
    omega (arith, a, b, c, d, e)
fields_long (Pairs pairs) bytes h = absurd h
fields_long (OfKexInit offer) bytes h = absurd h
fields_long (OfMethod m) bytes h = absurd h

-- each message of the form is so long, with what stands before
abbrev Sized : ℕ → Form → Type 0
Sized before (Done c) = before ≡ payload_length c
Sized before (Then f next) = (value : Of f) → Sized (before + width f value) (next value)
Sized before (Rest next) = (bytes : List ℕ) → before + length bytes ≡ payload_length (next bytes)

fills_sized : (before : ℕ) (form : Form) (m : MessageData) (fields : List ℕ) → Sized before form → FillsForm form m fields → before + length fields ≡ payload_length m
fills_sized before (Done c) m fields h (same, none) =
    let a : length fields ≡ 0 = ap (λ (xs : List ℕ). length xs) none in
    let b : payload_length m ≡ payload_length c = ap payload_length same in
    omega (arith, a, b, h)
fills_sized before (Then f next) m fields h (value, text, rest, t, fills, parts) =
    let a : length fields ≡ length (text ++ rest) = ap (λ (xs : List ℕ). length xs) parts in
    let b : length (text ++ rest) ≡ length text + length rest = length-append text rest in
    let c : length text ≡ width f value = text_long f value text t in
    let d : before + width f value + length rest ≡ payload_length m = fills_sized (before + width f value) (next value) m rest (h value) fills in
    omega (arith, a, b, c, d)
fills_sized before (Rest next) m fields h same = h fields ∙ ap payload_length (sym same)

push_length : (found : List (List ℕ × List ℕ)) (name value : List ℕ) → pairs_length (found ++ (name, value) ∷ []) ≡ pairs_length found + length name + length value + 8
push_length [] name value = omega arith
push_length (p ∷ ps) name value = let more : _ = push_length ps name value in omega (arith, more)

extensions_sized : (n before : ℕ) (found : List (List ℕ × List ℕ)) → before ≡ pairs_length found + 5 → Sized before (extensions n found)
unfolding extensions
extensions_sized zero before found h = h
extensions_sized (suc n) before found h = λ name value.
    let more : pairs_length (found ++ (name, value) ∷ []) ≡ pairs_length found + length name + length value + 8 = push_length found name value in
    extensions_sized n (before + (length name + 4) + (length value + 4)) (found ++ (name, value) ∷ []) (omega (arith, h, more))

ext_info_sized : Sized 1 ext_info
unfolding ext_info
ext_info_sized = λ count. extensions_sized count 5 [] refl

kexinit_sized : Sized 1 kexinit
unfolding kexinit
kexinit_sized = λ cookie kex host ec es mc ms cc0 cs lc ls follows reserved. omega arith

either_sized : (before : ℕ) (b : Bool) (x y : Form) → (b ≡ true → Sized before x) → (b ≡ false → Sized before y) → Sized before (cond b x y)
either_sized before true x y h k = h refl
either_sized before false x y h k = k refl

password_sized : (before : ℕ) (user service : List ℕ) → before ≡ length user + length service + 21 → Sized before (password user service)
unfolding password
password_sized before user service h = λ change. either_sized (before + 1) change _ _ (λ yes old new. omega (arith, h)) (λ no secret. omega (arith, h))

publickey_sized : (before : ℕ) (user service : List ℕ) → before ≡ length user + length service + 22 → Sized before (publickey user service)
unfolding publickey
publickey_sized before user service h = λ signed algorithm key.
    either_sized (before + 1 + (length algorithm + 4) + (length key + 4)) signed _ _ (λ yes signature. omega (arith, h)) (λ no. omega (arith, h))

name_long : (a b : List ℕ) → bytes_eq a b ≡ true → length a ≡ length b
name_long a b e = ap (λ (xs : List ℕ). length xs) ((bytes_eq-Decides a b).0 e)

method_sized : (before : ℕ) (user service method : List ℕ) → before ≡ length user + length service + length method + 13 → Sized before (method_form user service method)
method_sized before user service method h =
    either_sized before (bytes_eq method (codes "none")) _ _
    (λ yes. let long : length method ≡ 4 = name_long method (codes "none") yes in omega (arith, h, long)) (λ a.
    either_sized before (bytes_eq method (codes "password")) _ _
    (λ yes. let long : length method ≡ 8 = name_long method (codes "password") yes in password_sized before user service (omega (arith, h, long))) (λ b.
    either_sized before (bytes_eq method (codes "publickey")) _ _
    (λ yes. let long : length method ≡ 9 = name_long method (codes "publickey") yes in publickey_sized before user service (omega (arith, h, long)))
    (λ c fields. omega (arith, h))))

request_sized : Sized 1 userauth_request
unfolding userauth_request
request_sized = λ user service method. method_sized (1 + (length user + 4) + (length service + 4) + (length method + 4)) user service method (omega arith)

-- each message of the form is as long as its parts say
AllSized : ℕ → Form → Type 0
AllSized n form = (m : MessageData) (fields : List ℕ) → FillsForm form m fields → 1 + length fields ≡ payload_length m

others_sized : OfOthers AllSized
unfolding AllSized
others_sized = record {
  ext_info = λ m fields. fills_sized 1 ext_info m fields ext_info_sized;
  kexinit = λ m fields. fills_sized 1 kexinit m fields kexinit_sized;
  userauth_request = λ m fields. fills_sized 1 userauth_request m fields request_sized;
}

layouts_sized : OfLayouts AllSized
unfolding AllSized
layouts_sized n form lays m bytes fills =
    let laid = laid_out n form m bytes lays fills in
    let long : length bytes ≡ total (all_varying laid.0) + all_fixed laid.0 = fields_long laid.0 bytes laid.2 in
    let is : payload_length m ≡ total (all_varying laid.0) + (1 + all_fixed laid.0) = ap (λ (l : ℕ × Fields). total (all_varying l.1) + (1 + all_fixed l.1)) laid.1 in
    omega (arith, long, is)

pub spelled_length : (shares : ShareForm) (payload : List ℕ) (m : MessageData) → Spells shares m payload → length payload ≡ payload_length m
unfolding AllSized
spelled_length shares payload m s =
    let all : length payload ≡ length (s.number ∷ s.fields) = ap (λ (xs : List ℕ). length xs) s.payload_is in
    let after : 1 + length s.fields ≡ payload_length m = each_form shares AllSized others_sized layouts_sized s.number s.form s.known m s.fields s.fills in
    omega (arith, all, after)

-- What is written is as long, whatever the message.
then_long : (bytes more : List ℕ) → length (string bytes ++ more) ≡ 4 + length bytes + length more
then_long bytes more =
    let a : length (string bytes ++ more) ≡ length (string bytes) + length more = length-append (string bytes) more in
    let b : length (string bytes) ≡ 4 + length bytes = string_long bytes in
    omega (arith, a, b)

two_long : (a b : List ℕ) → length (string a ++ string b) ≡ length a + length b + 8
two_long a b = let x : _ = then_long a (string b) in let y : _ = string_long b in omega (arith, x, y)

three_long : (a b c : List ℕ) → length (string a ++ (string b ++ string c)) ≡ length a + length b + length c + 12
three_long a b c = let x : _ = then_long a (string b ++ string c) in let y : _ = two_long b c in omega (arith, x, y)

flag_then : (value : Bool) (more : List ℕ) → length (boolean value ++ more) ≡ 1 + length more
flag_then value more = omega arith

pairs_long : (pairs : List (List ℕ × List ℕ)) → length (pairs_written pairs) ≡ pairs_length pairs
pairs_long [] = refl
pairs_long (p ∷ ps) =
    let a : length (pairs_written (p ∷ ps)) ≡ length (string p.0 ++ string p.1) + length (pairs_written ps) = length-append (string p.0 ++ string p.1) (pairs_written ps) in
    let b : _ = two_long p.0 p.1 in
    let c : _ = pairs_long ps in
    omega (arith, a, b, c)

method_long : (m : MethodData) → length (method_fields m) ≡ method_length m
method_long NoMethod = refl
method_long (Password password) = let a : _ = string_long password in omega (arith, a)
method_long (PasswordChange old new) = let a : _ = two_long old new in omega (arith, a)
method_long (PublicKey algorithm key signature) = let a : _ = three_long algorithm key signature in omega (arith, a)
method_long (PublicKeyQuery algorithm key) = let a : _ = two_long algorithm key in omega (arith, a)
method_long (OtherMethod name fields) = refl

names_then : (names : List (List ℕ)) (more : List ℕ) → length (name_list names ++ more) ≡ 4 + length (names_body names) + length more
names_then names more = then_long (names_body names) more

offer_long : (o : KexInitData) → length (offer_written o) ≡ length o.cookie + offer_length o + 45
offer_long o =
    let end : List ℕ = boolean o.first_kex_packet_follows ++ uint32 0 in
    let last : length end ≡ 5 = refl in
    let t9 : List ℕ = name_list o.languages_server_to_client ++ end in
    let t8 : List ℕ = name_list o.languages_client_to_server ++ t9 in
    let t7 : List ℕ = name_list o.compression_server_to_client ++ t8 in
    let t6 : List ℕ = name_list o.compression_client_to_server ++ t7 in
    let t5 : List ℕ = name_list o.mac_server_to_client ++ t6 in
    let t4 : List ℕ = name_list o.mac_client_to_server ++ t5 in
    let t3 : List ℕ = name_list o.encryption_server_to_client ++ t4 in
    let t2 : List ℕ = name_list o.encryption_client_to_server ++ t3 in
    let t1 : List ℕ = name_list o.server_host_key_algorithms ++ t2 in
    let t0 : List ℕ = name_list o.kex_algorithms ++ t1 in
    let a : length (offer_written o) ≡ length o.cookie + length t0 = length-append o.cookie t0 in
    let b : length t0 ≡ 4 + length (names_body o.kex_algorithms) + length t1 = names_then o.kex_algorithms t1 in
    let c : length t1 ≡ 4 + length (names_body o.server_host_key_algorithms) + length t2 = names_then o.server_host_key_algorithms t2 in
    let d : length t2 ≡ 4 + length (names_body o.encryption_client_to_server) + length t3 = names_then o.encryption_client_to_server t3 in
    let e : length t3 ≡ 4 + length (names_body o.encryption_server_to_client) + length t4 = names_then o.encryption_server_to_client t4 in
    let f : length t4 ≡ 4 + length (names_body o.mac_client_to_server) + length t5 = names_then o.mac_client_to_server t5 in
    let g : length t5 ≡ 4 + length (names_body o.mac_server_to_client) + length t6 = names_then o.mac_server_to_client t6 in
    let h : length t6 ≡ 4 + length (names_body o.compression_client_to_server) + length t7 = names_then o.compression_client_to_server t7 in
    let i : length t7 ≡ 4 + length (names_body o.compression_server_to_client) + length t8 = names_then o.compression_server_to_client t8 in
    let j : length t8 ≡ 4 + length (names_body o.languages_client_to_server) + length t9 = names_then o.languages_client_to_server t9 in
    let k : length t9 ≡ 4 + length (names_body o.languages_server_to_client) + length end = names_then o.languages_server_to_client end in
    omega (arith, a, b, c, d, e, f, g, h, i, j, k, last)

written_long : (f : Field) (value : Of f) → length (field_written f value) ≡ width f value
written_long Flag value = refl
written_long Number value = uint32_long value
written_long Bytes value = let a : _ = string_long value in omega (arith, a)
written_long Utf8 value = let a : _ = string_long value in omega (arith, a)
written_long BigNumber value = let a : _ = string_long value in omega (arith, a)
written_long Names value = let a : _ = string_long (names_body value) in omega (arith, a)
written_long Cookie value = omega arith
written_long Reserved value = refl

-- a field in front of others
with_long : (f : Field) (value : Of f) (more : Fields) (bytes : List ℕ) → length bytes ≡ widths more → length (field_written f value ++ bytes) ≡ widths (With f value more)
with_long f value more bytes long =
    let a : length (field_written f value ++ bytes) ≡ length (field_written f value) + length bytes = length-append (field_written f value) bytes in
    let b : length (field_written f value) ≡ width f value = written_long f value in
    let c : widths (With f value more) ≡ width f value + widths more = widths_more f value more in
    omega (arith, a, b, c, long)

all_long : (fields : Fields) → length (fields_written fields) ≡ widths fields
all_long End = refl
all_long (With f value End) =
    let a : length (field_written f value) ≡ width f value = written_long f value in
    let b : widths (With f value End) ≡ width f value + widths End = widths_more f value End in
    omega (arith, a, b)
all_long (With f value (With g other more)) = with_long f value (With g other more) _ (all_long (With g other more))
all_long (With f value (Pairs pairs)) = with_long f value (Pairs pairs) _ (all_long (Pairs pairs))
all_long (With f value (OfKexInit offer)) = with_long f value (OfKexInit offer) _ (all_long (OfKexInit offer))
all_long (With f value (OfMethod m)) = with_long f value (OfMethod m) _ (all_long (OfMethod m))
all_long (Pairs pairs) = let a : _ = pairs_long pairs in omega (arith, a)
all_long (OfKexInit offer) = let a : _ = offer_long offer in omega (arith, a)
all_long (OfMethod m) = let a : _ = method_long m in omega (arith, a)

pub written_length : (m : MessageData) → length (written_message m) ≡ payload_length m
unfolding written_message
written_length m = let a : length (fields_written (layout m).1) ≡ widths (layout m).1 = all_long (layout m).1 in omega (arith, a)

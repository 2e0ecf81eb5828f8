-- What is spelled is well-formed.

use Rattle.std.proofs.Common.{◌≡◌, ℕ, zero, suc, ◌+◌, ◌<◌, ◌^◌, Bool, true, false, List, [], ◌∷◌, ◌++◌, length, refl, cond, codes, ◌||◌, arith, lit<}
use Rattle.std.specs.List.{AllByRecursion}
use Rattle.std.specs.Str.{IsUtf8, bytes_eq}
use Rattle.std.proofs.lemmas.List.{length-append}
use Rattle.sshwire.specs.declared.share_form.ShareForm.{ShareForm}
use Rattle.sshmsg.specs.MessageData.{End, ext_info, extensions, Fields, Form, kexinit, MessageData, OfMethod, method_form, OfKexInit, Pairs, password, publickey, userauth_request, With}
use Rattle.sshmsg.specs.Form.{BigNumber, Bytes, Cookie, Done, Field, FieldText, FillsForm, Flag, Names, Number, Of, Reserved, Rest, Then, Utf8}
use Rattle.sshmsg.specs.Messages.{Spells}
use Rattle.sshmsg.specs.Written.{AreFields, IsField, IsNumber, IsNameList, IsPair, IsString, IsWellFormed}
use Rattle.sshwire.specs.Types.{MpintText, NameListText}
use Rattle.sshmsg.proofs.TableLemmas.{FieldsText, OfLayouts, OfOthers, each_form, laid_out}

-- each message of the form is well-formed
abbrev Wells : Form → Type 0
Wells (Done c) = IsWellFormed c
Wells (Then f next) = (value : Of f) (text : List ℕ) → FieldText f value text → Wells (next value)
Wells (Rest next) = (bytes : List ℕ) → IsWellFormed (next bytes)

fills_well : (form : Form) (m : MessageData) (fields : List ℕ) → Wells form → FillsForm form m fields → IsWellFormed m
fills_well (Done c) m fields h (same, none) = rw same h
fills_well (Then f next) m fields h (value, text, rest, t, fills, parts) = fills_well (next value) m rest (h value text t) fills
fills_well (Rest next) m fields h same = rw same (h fields)

list_of : (names : List (List ℕ)) (text : List ℕ) → NameListText names text → IsNameList names
list_of names text (each, (short, is)) = record { each = each; short = short }

big_of : (body text : List ℕ) → MpintText body text → IsNumber body
big_of body text (bytes, shortest, (short, is)) = record { bytes = bytes; shortest = shortest; short = short }

push_pair : (found : List (List ℕ × List ℕ)) (pair : List ℕ × List ℕ) → AllByRecursion IsPair found → IsPair pair → AllByRecursion IsPair (found ++ pair ∷ [])
push_pair [] pair h p = (p, tt)
push_pair (x ∷ xs) pair (h, hs) p = (h, push_pair xs pair hs p)

extensions_well : (n : ℕ) (found : List (List ℕ × List ℕ)) → length found + n < 2 ^ 32 → AllByRecursion IsPair found → Wells (extensions n found)
unfolding extensions
extensions_well zero found few each = (let short : length found < 2 ^ 32 = omega (arith, few) in (short, each))
extensions_well (suc n) found few each = λ name a s value b v.
    let longer : length (found ++ (name, value) ∷ []) ≡ length found + 1 = length-append found ((name, value) ∷ []) in
    let still : length (found ++ (name, value) ∷ []) + n < 2 ^ 32 = rw longer (omega (arith, few)) in
    extensions_well n (found ++ (name, value) ∷ []) still (push_pair found (name, value) each (s.0, v.0))

ext_info_well : Wells ext_info
unfolding ext_info
ext_info_well = λ count a c.
    let none : List (List ℕ × List ℕ) = [] in
    let start : length none + count < 2 ^ 32 = (let h : count < 2 ^ 32 = c.0 in omega (arith, h)) in
    extensions_well count none start tt

kexinit_well : Wells kexinit
unfolding kexinit
kexinit_well = λ cookie a k kex b l0 host c l1 ec d l2 es e l3 mc f l4 ms g l5 cc0 h l6 cs i l7 lc j l8 ls k0 l9 follows l o reserved m p.
    record {
      cookie = k.0;
      kex_algorithms = list_of kex b l0;
      server_host_key_algorithms = list_of host c l1;
      encryption_client_to_server = list_of ec d l2;
      encryption_server_to_client = list_of es e l3;
      mac_client_to_server = list_of mc f l4;
      mac_server_to_client = list_of ms g l5;
      compression_client_to_server = list_of cc0 h l6;
      compression_server_to_client = list_of cs i l7;
      languages_client_to_server = list_of lc j l8;
      languages_server_to_client = list_of ls k0 l9;
    }

either_well : (b : Bool) (x y : Form) → (b ≡ true → Wells x) → (b ≡ false → Wells y) → Wells (cond b x y)
either_well true x y h k = h refl
either_well false x y h k = k refl

password_well : (user service : List ℕ) → IsUtf8 user → IsString user → IsString service → Wells (password user service)
unfolding password
password_well user service utf8 u s = λ change a t.
    either_well change _ _
    (λ yes old b o new c n. ((utf8, u), (s, (lit< tt, (o.0, n.0)))))
    (λ no secret b h. ((utf8, u), (s, (lit< tt, h.0))))

publickey_well : (user service : List ℕ) → IsUtf8 user → IsString user → IsString service → Wells (publickey user service)
unfolding publickey
publickey_well user service utf8 u s = λ signed a t algorithm b x key c y.
    either_well signed _ _
    (λ yes signature d z. ((utf8, u), (s, (lit< tt, (x.0, y.0, z.0)))))
    (λ no. ((utf8, u), (s, (lit< tt, (x.0, y.0)))))

not_named : (a b c : Bool) → a ≡ false → b ≡ false → c ≡ false → (a || (b || c)) ≡ false
not_named a b c x y z = rw (x, y, z) refl

method_well : (user service method : List ℕ) → IsUtf8 user → IsString user → IsString service → IsString method → Wells (method_form user service method)
method_well user service method utf8 u s m =
    either_well (bytes_eq method (codes "none")) _ _ (λ yes. ((utf8, u), (s, (lit< tt, tt)))) (λ a.
    either_well (bytes_eq method (codes "password")) _ _ (λ yes. password_well user service utf8 u s) (λ b.
    either_well (bytes_eq method (codes "publickey")) _ _ (λ yes. publickey_well user service utf8 u s) (λ c fields.
    ((utf8, u), (s, (m, not_named _ _ _ a b c))))))

request_well : Wells userauth_request
unfolding userauth_request
request_well = λ user a u service b s method c m. method_well user service method u.0 u.1.0 s.0 m.0

-- a text of a field is one of a field that may be written
field_well : (f : Field) (value : Of f) (text : List ℕ) → FieldText f value text → IsField f value
field_well Flag value text h = tt
field_well Number value text h = h.0
field_well Bytes value text h = h.0
field_well Utf8 value text h = (h.0, h.1.0)
field_well BigNumber value text h = big_of value text h
field_well Names value text h = list_of value text h
field_well Cookie value text h = h.0
field_well Reserved value text h = tt

fields_well : (fields : Fields) (bytes : List ℕ) → FieldsText fields bytes → AreFields fields
fields_well End bytes h = tt
fields_well (With f value more) bytes (text, rest, t, after, parts) = (field_well f value text t, fields_well more rest after)
fields_well (Pairs pairs) bytes h = absurd h
fields_well (OfKexInit offer) bytes h = absurd h
fields_well (OfMethod m) bytes h = absurd h

AllWell : ℕ → Form → Type 0
AllWell n form = (m : MessageData) (bytes : List ℕ) → FillsForm form m bytes → IsWellFormed m

others_well : OfOthers AllWell
unfolding AllWell
others_well = record {
  ext_info = λ m bytes. fills_well ext_info m bytes ext_info_well;
  kexinit = λ m bytes. fills_well kexinit m bytes kexinit_well;
  userauth_request = λ m bytes. fills_well userauth_request m bytes request_well;
}

layouts_well : OfLayouts AllWell
unfolding AllWell
layouts_well n form lays m bytes fills =
    let laid = laid_out n form m bytes lays fills in
    rw laid.1 (fields_well laid.0 bytes laid.2)

pub spelled_well : (shares : ShareForm) (payload : List ℕ) (m : MessageData) → Spells shares m payload → IsWellFormed m
unfolding AllWell
spelled_well shares payload m s = each_form shares AllWell others_well layouts_well s.number s.form s.known m s.fields s.fills

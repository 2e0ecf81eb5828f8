-- What is written for a message spells it.

use Rattle.std.proofs.Common.{◌≡◌, ◌≢◌, ℕ, Bool, true, false, ◌||◌, List, [], ◌∷◌, ◌++◌, codes, length, Option, None, Some, refl, sym, ap, lit<}
use Rattle.std.specs.List.{AllByRecursion}
use Rattle.std.proofs.lemmas.List.{append_assoc, append-nil}
use Rattle.std.specs.Str.{bytes_eq}
use Rattle.sshwire.specs.declared.share_form.ShareForm.{ShareForm}
use Rattle.sshwire.specs.declared.share_form.ShareForm.TheVariants.{Hybrid, Mpint, OctetString}
use Rattle.sshwire.specs.Types.{BooleanText, MpintText, NameListText, boolean, name_list, string, uint32}
use Rattle.sshmsg.specs.MessageData.{End, ext_info, extensions, ExtInfo, Fields, Form, form_of, is_named, kex_ecdh_init, kex_ecdh_reply, kexdh_init, kexdh_reply, KexdhInit, KexdhReply, KexEcdhInit, KexEcdhReply, KexInit, kexinit, KexInitData, layout, MessageData, OfMethod, method_form, MethodData, NoMethod, OfKexInit, OtherMethod, Pairs, Password, password, PasswordChange, PublicKey, publickey, PublicKeyQuery, userauth_request, UserauthRequest, With, method_name}
use Rattle.sshmsg.specs.Form.{BigNumber, Bytes, Cookie, Done, Field, FieldText, FillsForm, Flag, Names, Number, Of, Reserved, Rest, Then, Utf8}
use Rattle.sshmsg.specs.Messages.{Spells}
use Rattle.sshmsg.specs.Written.{AreFields, IsField, IsMessageOf, IsMethod, IsNumber, IsNameList, IsOffer, IsPair, IsString, IsWellFormed, field_written, fields_written, method_fields, offer_written, pairs_written, written_message}

boolean_text : (value : Bool) → BooleanText value (boolean value)
boolean_text true = refl
boolean_text false = refl

names_text : (names : List (List ℕ)) → IsNameList names → NameListText names (name_list names)
names_text names h = (h.each, (h.short, refl))

number_text : (body : List ℕ) → IsNumber body → MpintText body (string body)
number_text body h = (h.bytes, h.shortest, (h.short, refl))

pairs_fill : (pairs found : List (List ℕ × List ℕ)) → AllByRecursion IsPair pairs
    → FillsForm (extensions (length pairs) found) (ExtInfo (found ++ pairs)) (pairs_written pairs)
unfolding extensions
pairs_fill [] found h = (ap ExtInfo (append-nil found), refl)
pairs_fill (p ∷ ps) found (h, more) =
    let rest : FillsForm (extensions (length ps) (found ++ p ∷ [])) (ExtInfo (found ++ p ∷ ps)) (pairs_written ps)
    = rw (append_assoc found (p ∷ []) ps) at (pairs_fill ps (found ++ p ∷ []) more) in (
      p.0,
      string p.0,
      string p.1 ++ pairs_written ps,
      (h.0, refl),
      (p.1, string p.1, pairs_written ps, (h.1, refl), rest, refl),
      append_assoc (string p.0) (string p.1) (pairs_written ps),
    )

ext_info_fills : (pairs : List (List ℕ × List ℕ)) → IsWellFormed (ExtInfo pairs)
    → FillsForm ext_info (ExtInfo pairs) (uint32 (length pairs) ++ pairs_written pairs)
unfolding ext_info
ext_info_fills pairs (n, each) = (length pairs, uint32 (length pairs), pairs_written pairs, (n, refl), pairs_fill pairs [] each, refl)

offer_fills : (offer : KexInitData) → IsOffer offer → FillsForm kexinit (KexInit offer) (offer_written offer)
unfolding kexinit
offer_fills offer h = (
  offer.cookie,
  offer.cookie,
  _,
  (h.cookie, refl),
  (
    offer.kex_algorithms,
    name_list offer.kex_algorithms,
    _,
    names_text _ h.kex_algorithms,
    (
      offer.server_host_key_algorithms,
      name_list offer.server_host_key_algorithms,
      _,
      names_text _ h.server_host_key_algorithms,
      (
        offer.encryption_client_to_server,
        name_list offer.encryption_client_to_server,
        _,
        names_text _ h.encryption_client_to_server,
        (
          offer.encryption_server_to_client,
          name_list offer.encryption_server_to_client,
          _,
          names_text _ h.encryption_server_to_client,
          (
            offer.mac_client_to_server,
            name_list offer.mac_client_to_server,
            _,
            names_text _ h.mac_client_to_server,
            (
              offer.mac_server_to_client,
              name_list offer.mac_server_to_client,
              _,
              names_text _ h.mac_server_to_client,
              (
                offer.compression_client_to_server,
                name_list offer.compression_client_to_server,
                _,
                names_text _ h.compression_client_to_server,
                (
                  offer.compression_server_to_client,
                  name_list offer.compression_server_to_client,
                  _,
                  names_text _ h.compression_server_to_client,
                  (
                    offer.languages_client_to_server,
                    name_list offer.languages_client_to_server,
                    _,
                    names_text _ h.languages_client_to_server,
                    (
                      offer.languages_server_to_client,
                      name_list offer.languages_server_to_client,
                      _,
                      names_text _ h.languages_server_to_client,
                      (
                        offer.first_kex_packet_follows,
                        boolean offer.first_kex_packet_follows,
                        uint32 0,
                        boolean_text offer.first_kex_packet_follows,
                        (tt, uint32 0, [], refl, (refl, refl), refl),
                        refl,
                      ),
                      refl,
                    ),
                    refl,
                  ),
                  refl,
                ),
                refl,
              ),
              refl,
            ),
            refl,
          ),
          refl,
        ),
        refl,
      ),
      refl,
    ),
    refl,
  ),
  refl,
)

-- A name that is none of the three has the form of any other.
none_of_three : (a b c : Bool) → a || (b || c) ≡ false → (a ≡ false) × (b ≡ false) × (c ≡ false)
none_of_three true b c e = cc
none_of_three false true c e = cc
none_of_three false false true e = cc
none_of_three false false false e = (refl, refl, refl)

other_form : (user service name : List ℕ) → is_named name ≡ false
    → method_form user service name ≡ Rest (λ fields. UserauthRequest user service (OtherMethod name fields))
other_form user service name h =
    let n = none_of_three (bytes_eq name (codes "none")) (bytes_eq name (codes "password")) (bytes_eq name (codes "publickey")) h in
    rw (n.0, n.1, n.2) refl

abbrev of_method : List ℕ → List ℕ → Form
of_method user service = Then Bytes λ method. method_form user service method

method_fills : (user service : List ℕ) (m : MethodData) → IsString (method_name m) → IsMethod m
    → FillsForm (of_method user service) (UserauthRequest user service m) (string (method_name m) ++ method_fields m)
unfolding password publickey
method_fills user service NoMethod n h = (codes "none", string (codes "none"), [], (lit< tt, refl), (refl, refl), refl)
method_fills user service (Password secret) n h = (
  codes "password",
  string (codes "password"),
  boolean false ++ string secret,
  (lit< tt, refl),
  (
    false,
    boolean false,
    string secret,
    refl,
    (secret, string secret, [], (h, refl), (refl, refl), sym (append-nil (string secret))),
    refl,
  ),
  refl,
)
method_fills user service (PasswordChange old new) _ (o, n) = (
  codes "password",
  string (codes "password"),
  boolean true ++ (string old ++ string new),
  (lit< tt, refl),
  (
    true,
    boolean true,
    string old ++ string new,
    refl,
    (
      old,
      string old,
      string new,
      (o, refl),
      (new, string new, [], (n, refl), (refl, refl), sym (append-nil (string new))),
      refl,
    ),
    refl,
  ),
  refl,
)
method_fills user service (PublicKey algorithm key signature) n (a, k, s) = (
  codes "publickey",
  string (codes "publickey"),
  boolean true ++ (string algorithm ++ (string key ++ string signature)),
  (lit< tt, refl),
  (
    true,
    boolean true,
    string algorithm ++ (string key ++ string signature),
    refl,
    (
      algorithm,
      string algorithm,
      string key ++ string signature,
      (a, refl),
      (
        key,
        string key,
        string signature,
        (k, refl),
        (signature, string signature, [], (s, refl), (refl, refl), sym (append-nil (string signature))),
        refl,
      ),
      refl,
    ),
    refl,
  ),
  refl,
)
method_fills user service (PublicKeyQuery algorithm key) n (a, k) = (
  codes "publickey",
  string (codes "publickey"),
  boolean false ++ (string algorithm ++ string key),
  (lit< tt, refl),
  (
    false,
    boolean false,
    string algorithm ++ string key,
    refl,
    (
      algorithm,
      string algorithm,
      string key,
      (a, refl),
      (key, string key, [], (k, refl), (refl, refl), sym (append-nil (string key))),
      refl,
    ),
    refl,
  ),
  refl,
)
method_fills user service (OtherMethod name fields) n other =
    (name, string name, fields, (n, refl), rw (other_form user service name other) refl, refl)

request_fills : (user service : List ℕ) (m : MethodData) → IsWellFormed (UserauthRequest user service m)
    → FillsForm userauth_request (UserauthRequest user service m) (string user ++ (string service ++ (string (method_name m) ++ method_fields m)))
unfolding userauth_request
request_fills user service m ((utf8, u), (s, (n, h))) = (
  user,
  string user,
  string service ++ (string (method_name m) ++ method_fields m),
  (utf8, (u, refl)),
  (service, string service, string (method_name m) ++ method_fields m, (s, refl), method_fills user service m n h, refl),
  refl,
)

-- what is written for a field stands for it
field_text : (f : Field) (value : Of f) → IsField f value → FieldText f value (field_written f value)
field_text Flag value h = boolean_text value
field_text Number value h = (h, refl)
field_text Bytes value h = (h, refl)
field_text Utf8 value h = (h.0, (h.1, refl))
field_text BigNumber value h = number_text value h
field_text Names value h = names_text value h
field_text Cookie value h = (h, refl)
field_text Reserved value h = refl

field_split : (f : Field) (value : Of f) (more : Fields) → fields_written (With f value more) ≡ field_written f value ++ fields_written more
field_split f value End = sym (append-nil (field_written f value))
field_split f value (With g other more) = refl
field_split f value (Pairs pairs) = refl
field_split f value (OfKexInit offer) = refl
field_split f value (OfMethod m) = refl

-- what a field of this kind holds, if it is of the other kind
held : (f g : Field) → Of g → Option (Of f)
held Flag Flag value = Some value
held Number Number value = Some value
held Bytes Bytes value = Some value
held Utf8 Utf8 value = Some value
held BigNumber BigNumber value = Some value
held Names Names value = Some value
held Cookie Cookie value = Some value
held Reserved Reserved value = Some value
held f g value = None

abbrev with_held : {A : Type 0} → Option A → (A → Option MessageData) → Option MessageData
with_held (Some value) next = next value
with_held None next = None

-- what a form makes of fields, if they are those that it has
abbrev made_of : Form → Fields → Option MessageData
made_of (Done c) End = Some c
made_of (Then f next) (With g value more) = with_held (held f g value) (λ x. made_of (next x) more)
made_of form fields = None

with_held_some : {A : Type 0} (o : Option A) (next : A → Option MessageData) (m : MessageData) → with_held o next ≡ Some m → (x : A) × (o ≡ Some x) × (next x ≡ Some m)
with_held_some (Some x) next m e = (x, refl, e)
with_held_some None next m e = cc

held_text : (f g : Field) (value : Of g) (x : Of f) → held f g value ≡ Some x → IsField g value → FieldText f x (field_written g value)
unfolding held
held_text Flag Flag value x e h = let is : value ≡ x = cc in rw (← is) (field_text Flag value h)
held_text Number Number value x e h = let is : value ≡ x = cc in rw (← is) (field_text Number value h)
held_text Bytes Bytes value x e h = let is : value ≡ x = cc in rw (← is) (field_text Bytes value h)
held_text Utf8 Utf8 value x e h = let is : value ≡ x = cc in rw (← is) (field_text Utf8 value h)
held_text BigNumber BigNumber value x e h = let is : value ≡ x = cc in rw (← is) (field_text BigNumber value h)
held_text Names Names value x e h = let is : value ≡ x = cc in rw (← is) (field_text Names value h)
held_text Cookie Cookie value x e h = let is : value ≡ x = cc in rw (← is) (field_text Cookie value h)
held_text Reserved Reserved value x e h = refl
held_text f g value x e h = cc

-- what is written for the fields of a message fills the form that makes the message of them
made_fills : (form : Form) (m : MessageData) (fields : Fields) → made_of form fields ≡ Some m → AreFields fields → FillsForm form m (fields_written fields)
made_fills (Done c) m End e well = let is : c ≡ m = cc in (sym is, refl)
made_fills (Then f next) m (With g value more) e well =
    let b = with_held_some (held f g value) (λ (x : Of f). made_of (next x) more) m e in (
      b.0,
      field_written g value,
      fields_written more,
      held_text f g value b.0 b.1 well.0,
      made_fills (next b.0) m more b.2 well.1,
      field_split g value more,
    )
made_fills form m fields e well = cc

laid_out_spells : (shares : ShareForm) (m : MessageData) (form : Form) → form_of shares (layout m).0 ≡ Some form → made_of form (layout m).1 ≡ Some m → IsWellFormed m → Spells shares m (written_message m)
unfolding written_message
laid_out_spells shares m form known makes well =
    record { number = (layout m).0; form = form; fields = fields_written (layout m).1; known = known; fills = made_fills form m (layout m).1 makes well; payload_is = refl }

-- where shares are octet strings
octets_row : (shares : ShareForm) → shares ≢ Mpint → (form_of shares 30 ≡ Some kex_ecdh_init) × (form_of shares 31 ≡ Some kex_ecdh_reply)
unfolding form_of
octets_row Mpint octets = absurd (octets refl)
octets_row OctetString octets = (refl, refl)
octets_row Hybrid octets = (refl, refl)

pub written_spells : (shares : ShareForm) (m : MessageData) → IsMessageOf shares m → IsWellFormed m → Spells shares m (written_message m)
unfolding written_message form_of held
written_spells shares (ExtInfo pairs) o h =
    record { number = 7; form = ext_info; fields = _; known = refl; fills = ext_info_fills pairs h; payload_is = refl }
written_spells shares (KexInit offer) o h =
    record { number = 20; form = kexinit; fields = _; known = refl; fills = offer_fills offer h; payload_is = refl }
written_spells shares (KexdhInit e) o h = laid_out_spells shares (KexdhInit e) kexdh_init (rw o refl) refl h
written_spells shares (KexdhReply host_key f signature) o h = laid_out_spells shares (KexdhReply host_key f signature) kexdh_reply (rw o refl) refl h
written_spells shares (KexEcdhInit share) o h = laid_out_spells shares (KexEcdhInit share) kex_ecdh_init (octets_row shares o).0 refl h
written_spells shares (KexEcdhReply host_key share signature) o h =
    laid_out_spells shares (KexEcdhReply host_key share signature) kex_ecdh_reply (octets_row shares o).1 refl h
written_spells shares (UserauthRequest user service m) o h =
    record { number = 50; form = userauth_request; fields = _; known = refl; fills = request_fills user service m h; payload_is = refl }
written_spells shares m o h = laid_out_spells shares m _ refl refl h

-- One stream has one reading, and what was sent is received.

use Rattle.std.proofs.Common.{◌≡◌, ℕ, ◌+◌, ◌≤◌, List, [], ◌∷◌, ◌++◌, length, drop, take, refl, sym, ap, ◌∙◌, subst, Option, None, Some, append_assoc}
use Rattle.std.proofs.lemmas.List.{append-nil, drop-append-le, length-append, length-take-le, take-append-drop}
use Rattle.std.proofs.Math.Seq.{drop-append_seam, take-append_seam}
use Rattle.sshpacket.specs.Parse.{Refusal, refused, unfinished, whole}
use Rattle.sshpacket.specs.Places.{IsPrefix, EachPlace, flat_places}
use Rattle.sshpacket.specs.Stream.{Units, Parser, Parsers, IsIncremental, Read, IsRest, Received, Sent, Spelled, Same, Linked, ReceivedAll, sizes_of}
use Rattle.sshpacket.proofs.Places.{each-after, each-prefix, flat-append, flat-push, flat-same, prefix-cons}

-- a rest has no unit at its front
no_unit : (parser : Parser) (rest u : List ℕ) (len : ℕ) (r : Option Refusal) → IsRest parser rest r → parser rest ≡ whole u len → ⊥
no_unit parser rest u len None h e = cc
no_unit parser rest u len (Some f) h e = cc

-- and one refusal at most
one_refusal : (parser : Parser) (rest : List ℕ) (r q : Option Refusal) → IsRest parser rest r → IsRest parser rest q → r ≡ q
one_refusal parser rest None None h k = refl
one_refusal parser rest None (Some f) h k = cc
one_refusal parser rest (Some f) None h k = cc
one_refusal parser rest (Some f) (Some g) h k = cc

-- the bytes used, after the rest
record IsUsed (rest piece : List ℕ) (used : ℕ) : Type 0 where
  taken : take (length rest + used) (rest ++ piece) ≡ rest ++ take used piece
  size : length (rest ++ take used piece) ≡ length rest + used

used_of : (rest piece : List ℕ) (used : ℕ) → used ≤ length piece → IsUsed rest piece used
used_of rest piece used low =
    let size : length (rest ++ take used piece) ≡ length rest + used = length-append rest (take used piece) ∙ ap (λ (n : ℕ). length rest + n) (length-take-le used piece low) in
    let cut : rest ++ piece ≡ (rest ++ take used piece) ++ drop used piece
    = ap (λ (xs : List ℕ). rest ++ xs) (sym (take-append-drop used piece)) ∙ sym (append_assoc rest (take used piece) (drop used piece)) in
    record {
      taken = ap (λ (n : ℕ). take n (rest ++ piece)) (sym size) ∙ (ap (λ (xs : List ℕ). take (length (rest ++ take used piece)) xs) cut ∙ take-append_seam (rest ++ take used piece) (drop used piece));
      size = size;
    }

module _ (parsers : Parsers) where
  -- the units so far, with one more
  further : (before : Units) (passed : List ℕ) (u : List ℕ) (n : ℕ) (us : Units) (ns ms x : List ℕ) (r : Option Refusal) → ns ≡ n ∷ ms
      → IsRest (parsers (before ++ u ∷ us) (passed ++ ns)) x r → IsRest (parsers ((before ++ u ∷ []) ++ us) ((passed ++ n ∷ []) ++ ms)) x r
  further before passed u n us ns ms x r e h =
      subst (λ (b : Units). IsRest (parsers b ((passed ++ n ∷ []) ++ ms)) x r) (sym (append_assoc before (u ∷ []) us))
      (subst (λ (z : List ℕ). IsRest (parsers (before ++ u ∷ us) z) x r) (ap (λ (z : List ℕ). passed ++ z) e ∙ sym (append_assoc passed (n ∷ []) ms)) h)

  ended : (before : Units) (passed ns x : List ℕ) (r : Option Refusal) → ns ≡ [] → IsRest (parsers (before ++ []) (passed ++ ns)) x r → IsRest (parsers before passed) x r
  ended before passed ns x r e h =
      subst (λ (b : Units). IsRest (parsers b passed) x r) (append-nil before)
      (subst (λ (z : List ℕ). IsRest (parsers (before ++ []) z) x r) (ap (λ (z : List ℕ). passed ++ z) e ∙ append-nil passed) h)

  read_one : (before : Units) (passed bytes : List ℕ) (us vs : Units) (ns ms x y : List ℕ) (r q : Option Refusal)
      → Read parsers before passed bytes us ns x → IsRest (parsers (before ++ us) (passed ++ ns)) x r
      → Read parsers before passed bytes vs ms y → IsRest (parsers (before ++ vs) (passed ++ ms)) y q → Same us vs x y r q
  read_one before passed bytes [] [] ns ms x y r q (s, a) h (t, b) k =
      let same : x ≡ y = sym a ∙ b in
      record {
        same_units = refl;
        same_rest = same;
        same_refusal = one_refusal (parsers before passed) y r q (subst (λ (z : List ℕ). IsRest (parsers before passed) z r) same (ended before passed ns x r s h)) (ended before passed ms y q t k);
      }
  read_one before passed bytes [] (v ∷ vs) ns ms x y r q (s, a) h (len, others, t, e, b) k =
      absurd (no_unit (parsers before passed) bytes v len r (subst (λ (z : List ℕ). IsRest (parsers before passed) z r) (sym a) (ended before passed ns x r s h)) e)
  read_one before passed bytes (u ∷ us) [] ns ms x y r q (len, others, t, e, a) h (s, b) k =
      absurd (no_unit (parsers before passed) bytes u len q (subst (λ (z : List ℕ). IsRest (parsers before passed) z q) (sym b) (ended before passed ms y q s k)) e)
  read_one before passed bytes (u ∷ us) (v ∷ vs) ns ms x y r q (len, others, s, e, a) h (n, more, t, f, b) k =
      let unit : u ≡ v = cc in
      let size : len ≡ n = cc in
      let b₁ : Read parsers (before ++ u ∷ []) (passed ++ len ∷ []) (drop len bytes) vs more y
      = subst (λ (w : List ℕ). Read parsers (before ++ w ∷ []) (passed ++ len ∷ []) (drop len bytes) vs more y) (sym unit)
      (subst (λ (m : ℕ). Read parsers (before ++ v ∷ []) (passed ++ m ∷ []) (drop m bytes) vs more y) (sym size) b) in
      let k₁ : IsRest (parsers (before ++ u ∷ vs) (passed ++ ms)) y q = subst (λ (w : List ℕ). IsRest (parsers (before ++ w ∷ vs) (passed ++ ms)) y q) (sym unit) k in
      let same : Same us vs x y r q
      = read_one (before ++ u ∷ []) (passed ++ len ∷ []) (drop len bytes) us vs others more x y r q a (further before passed u len us ns others x r s h) b₁
      (further before passed u len vs ms more y q (t ∙ ap (λ (m : ℕ). m ∷ more) (sym size)) k₁) in
      record { same_units = (let rest : us ≡ vs = same.same_units in cc); same_rest = same.same_rest; same_refusal = same.same_refusal }

  pub one_reading : (stream : List ℕ) (us vs : Units) (ns ms x y : List ℕ) (r q : Option Refusal) → Received parsers stream us ns x r → Received parsers stream vs ms y q → Same us vs x y r q
  one_reading stream us vs ns ms x y r q a b = read_one [] [] stream us vs ns ms x y r q a.read a.then_rest b.read b.then_rest

  -- after the same units stands the same rest
  read_rest : (before : Units) (passed bytes : List ℕ) (us : Units) (ns ms x y : List ℕ) → Read parsers before passed bytes us ns x → Read parsers before passed bytes us ms y → x ≡ y
  read_rest before passed bytes [] ns ms x y (s, a) (t, b) = sym a ∙ b
  read_rest before passed bytes (u ∷ us) ns ms x y (len, others, s, e, a) (n, more, t, f, b) =
      let size : n ≡ len = cc in
      read_rest (before ++ u ∷ []) (passed ++ len ∷ []) (drop len bytes) us others more x y a
      (subst (λ (m : ℕ). Read parsers (before ++ u ∷ []) (passed ++ m ∷ []) (drop m bytes) us more y) size b)

  -- and they have the same sizes
  read_sizes : (before : Units) (passed bytes : List ℕ) (us : Units) (ns ms x y : List ℕ) → Read parsers before passed bytes us ns x → Read parsers before passed bytes us ms y → ns ≡ ms
  read_sizes before passed bytes [] ns ms x y (s, a) (t, b) = s ∙ sym t
  read_sizes before passed bytes (u ∷ us) ns ms x y (len, others, s, e, a) (n, more, t, f, b) =
      let size : n ≡ len = cc in
      let rest : others ≡ more
      = read_sizes (before ++ u ∷ []) (passed ++ len ∷ []) (drop len bytes) us others more x y a
      (subst (λ (m : ℕ). Read parsers (before ++ u ∷ []) (passed ++ m ∷ []) (drop m bytes) us more y) size b) in
      s ∙ (ap (λ (z : List ℕ). len ∷ z) rest ∙ (ap (λ (m : ℕ). m ∷ more) (sym size) ∙ sym t))

  pub read_push : (before : Units) (passed bytes : List ℕ) (us : Units) (ns rest u : List ℕ) (len : ℕ)
      → Read parsers before passed bytes us ns rest → parsers (before ++ us) (passed ++ ns) rest ≡ whole u len
      → Read parsers before passed bytes (us ++ u ∷ []) (ns ++ len ∷ []) (drop len rest)
  read_push before passed bytes [] ns rest u len (s, a) e =
      let same : bytes ≡ rest = a in
      let none : passed ++ ns ≡ passed = ap (λ (z : List ℕ). passed ++ z) s ∙ append-nil passed in
      let here : parsers before passed bytes ≡ whole u len
      = rw same (subst (λ (b : Units). parsers b passed rest ≡ whole u len) (append-nil before) (subst (λ (z : List ℕ). parsers (before ++ []) z rest ≡ whole u len) none e)) in
      (len, [], ap (λ (z : List ℕ). z ++ len ∷ []) s, here, (refl, ap (λ (z : List ℕ). drop len z) same))
  read_push before passed bytes (v ∷ us) ns rest u len (n, others, s, f, a) e =
      let units : (before ++ v ∷ []) ++ us ≡ before ++ v ∷ us = append_assoc before (v ∷ []) us in
      let sizes : (passed ++ n ∷ []) ++ others ≡ passed ++ ns = append_assoc passed (n ∷ []) others ∙ ap (λ (z : List ℕ). passed ++ z) (sym s) in (
        n,
        others ++ len ∷ [],
        ap (λ (z : List ℕ). z ++ len ∷ []) s,
        f,
        read_push (before ++ v ∷ []) (passed ++ n ∷ []) (drop n bytes) us others rest u len a
            (subst (λ (b : Units). parsers b ((passed ++ n ∷ []) ++ others) rest ≡ whole u len) (sym units)
            (subst (λ (z : List ℕ). parsers (before ++ v ∷ us) z rest ≡ whole u len) (sym sizes) e)),
      )

  module _ (each : (us : Units) (ns : List ℕ) → IsIncremental (parsers us ns)) where
    -- what was read is read with more bytes after it
    more_whole : (before : Units) (passed bytes more u : List ℕ) (len : ℕ) → parsers before passed bytes ≡ whole u len → parsers before passed (bytes ++ more) ≡ whole u len
    more_whole before passed bytes more u len e = (each before passed).more bytes more (λ none. cc) ∙ e

    pub read_more : (before : Units) (passed bytes more : List ℕ) (us : Units) (ns rest : List ℕ)
        → Read parsers before passed bytes us ns rest → Read parsers before passed (bytes ++ more) us ns (rest ++ more)
    read_more before passed bytes more [] ns rest (s, a) = (s, ap (λ (z : List ℕ). z ++ more) a)
    read_more before passed bytes more (u ∷ us) ns rest (len, others, s, e, a) =
        let low : len ≤ length bytes = (each before passed).within bytes u len e in
        let cut : drop len (bytes ++ more) ≡ drop len bytes ++ more = drop-append-le len bytes more low in
        (len, others, s, more_whole before passed bytes more u len e, rw cut (read_more (before ++ u ∷ []) (passed ++ len ∷ []) (drop len bytes) more us others rest a))

    -- the rest with more bytes after it
    pub received_more : (stream more : List ℕ) (us : Units) (ns rest : List ℕ) (r q : Option Refusal)
        → Received parsers stream us ns rest r → IsRest (parsers us ns) (rest ++ more) q → Received parsers (stream ++ more) us ns (rest ++ more) q
    received_more stream more us ns rest r q h k = record { read = read_more [] [] stream more us ns rest h.read; then_rest = k }

    -- more bytes after it, which end a unit
    pub received_push : (stream more : List ℕ) (us : Units) (ns rest u : List ℕ) (r : Option Refusal)
        → Received parsers stream us ns rest r → parsers us ns (rest ++ more) ≡ whole u (length (rest ++ more))
        → Received parsers (stream ++ more) (us ++ u ∷ []) (ns ++ length (rest ++ more) ∷ []) [] None
    received_push stream more us ns rest u r h e =
        let sizes : List ℕ = ns ++ length (rest ++ more) ∷ [] in
        let all : Read parsers [] [] (stream ++ more) (us ++ u ∷ []) sizes (drop (length (rest ++ more)) (rest ++ more))
        = read_push [] [] (stream ++ more) us ns (rest ++ more) u (length (rest ++ more)) (read_more [] [] stream more us ns rest h.read) e in
        let none : drop (length (rest ++ more)) (rest ++ more) ≡ [] = ap (λ (z : List ℕ). drop (length (rest ++ more)) z) (sym (append-nil (rest ++ more))) ∙ drop-append_seam (rest ++ more) [] in
        record { read = subst (λ (z : List ℕ). Read parsers [] [] (stream ++ more) (us ++ u ∷ []) sizes z) none all; then_rest = (each (us ++ u ∷ []) sizes).none }

    -- of more bytes after it, those that end a unit or decide a refusal
    pub received_unit : (stream piece : List ℕ) (us : Units) (ns rest u : List ℕ) (used : ℕ) → Received parsers stream us ns rest None → used ≤ length piece
        → parsers us ns (rest ++ piece) ≡ whole u (length rest + used) → Received parsers (stream ++ take used piece) (us ++ u ∷ []) (ns ++ (length rest + used) ∷ []) [] None
    received_unit stream piece us ns rest u used h low e =
        let cut : IsUsed rest piece used = used_of rest piece used low in
        let own : parsers us ns (rest ++ take used piece) ≡ whole u (length rest + used)
        = rw cut.taken at ((each us ns).whole_again (rest ++ piece) u (length rest + used) e) in
        subst (λ (n : ℕ). Received parsers (stream ++ take used piece) (us ++ u ∷ []) (ns ++ n ∷ []) [] None) cut.size
        (received_push stream (take used piece) us ns rest u None h (own ∙ ap (λ (n : ℕ). whole u n) (sym cut.size)))

    pub received_refusal : (stream piece : List ℕ) (us : Units) (ns rest : List ℕ) (r : Refusal) (used : ℕ) → Received parsers stream us ns rest None → used ≤ length piece
        → parsers us ns (rest ++ piece) ≡ refused r (length rest + used) → Received parsers (stream ++ take used piece) us ns (rest ++ take used piece) (Some r)
    received_refusal stream piece us ns rest r used h low e =
        let cut : IsUsed rest piece used = used_of rest piece used low in
        let again : parsers us ns (take (length rest + used) (rest ++ piece)) ≡ refused r (length rest + used)
        = ((each us ns).refused_again (rest ++ piece) r (length rest + used) e).1 in
        received_more stream (take used piece) us ns rest None (Some r) h (rw cut.taken at again ∙ ap (λ (n : ℕ). refused r n) (sym cut.size))

    pub received_part : (stream piece : List ℕ) (us : Units) (ns rest : List ℕ) → Received parsers stream us ns rest None
        → parsers us ns (rest ++ piece) ≡ unfinished → Received parsers (stream ++ piece) us ns (rest ++ piece) None
    received_part stream piece us ns rest h e = received_more stream piece us ns rest None None h e

    -- of two readings of which the second ends, the first is a prefix
    read_front : (before : Units) (passed bytes : List ℕ) (us vs : Units) (ns ms x y : List ℕ) (q : Option Refusal)
        → Read parsers before passed bytes us ns x → Read parsers before passed bytes vs ms y → IsRest (parsers (before ++ vs) (passed ++ ms)) y q → IsPrefix us vs
    read_front before passed bytes [] vs ns ms x y q a b k = record { rest = vs; whole_is = refl }
    read_front before passed bytes (u ∷ us) [] ns ms x y q (len, others, s, e, a) (t, b) k =
        absurd (no_unit (parsers before passed) bytes u len q (subst (λ (z : List ℕ). IsRest (parsers before passed) z q) (sym b) (ended before passed ms y q t k)) e)
    read_front before passed bytes (u ∷ us) (v ∷ vs) ns ms x y q (len, others, s, e, a) (n, more, t, f, b) k =
        let unit : v ≡ u = cc in
        let size : n ≡ len = cc in
        let b₁ : Read parsers (before ++ u ∷ []) (passed ++ len ∷ []) (drop len bytes) vs more y
        = subst (λ (w : List ℕ). Read parsers (before ++ w ∷ []) (passed ++ len ∷ []) (drop len bytes) vs more y) unit
        (subst (λ (m : ℕ). Read parsers (before ++ v ∷ []) (passed ++ m ∷ []) (drop m bytes) vs more y) size b) in
        let k₁ : IsRest (parsers (before ++ u ∷ vs) (passed ++ ms)) y q = subst (λ (w : List ℕ). IsRest (parsers (before ++ w ∷ vs) (passed ++ ms)) y q) unit k in
        subst (λ (w : List ℕ). IsPrefix (u ∷ us) (w ∷ vs)) (sym unit)
        (prefix-cons u us vs (read_front (before ++ u ∷ []) (passed ++ len ∷ []) (drop len bytes) us vs others more x y q a b₁
        (further before passed u len vs ms more y q (t ∙ ap (λ (m : ℕ). m ∷ more) size) k₁)))

    pub received_front : (stream more : List ℕ) (us vs : Units) (ns ms x y : List ℕ) (r q : Option Refusal)
        → Received parsers stream us ns x r → Received parsers (stream ++ more) vs ms y q → IsPrefix us vs
    received_front stream more us vs ns ms x y r q a b = read_front [] [] (stream ++ more) us vs ns ms (x ++ more) y q (read_more [] [] stream more us ns x a.read) b.read b.then_rest

    pub received_none : Received parsers [] [] [] [] None
    received_none = record { read = (refl, refl); then_rest = (each [] []).none }

    module _ (spells : Units → List ℕ → List ℕ) where
      -- the size of one unit more
      size_push : (before : Units) (u : List ℕ) → sizes_of spells [] (before ++ u ∷ []) ≡ sizes_of spells [] before ++ length (spells before u) ∷ []
      size_push before u = flat-push (λ (passed : Units) (w : List ℕ). length (spells passed w) ∷ []) [] before u

      -- what is spelled at each place is read there, and what follows is left
      sent_read : (before us : Units) (more : List ℕ) → EachPlace (Spelled parsers spells) before us
          → Read parsers before (sizes_of spells [] before) (flat_places spells before us ++ more) us (sizes_of spells before us) more
      sent_read before [] more e = (refl, refl)
      sent_read before (u ∷ us) more e =
          let one : List ℕ = spells before u in
          let later : List ℕ = flat_places spells (before ++ u ∷ []) us in
          let grouped : (one ++ later) ++ more ≡ one ++ (later ++ more) = append_assoc one later more in
          let after : drop (length one) ((one ++ later) ++ more) ≡ later ++ more = ap (λ (z : List ℕ). drop (length one) z) grouped ∙ drop-append_seam one (later ++ more) in
          let left : Read parsers (before ++ u ∷ []) (sizes_of spells [] before ++ length one ∷ []) (later ++ more) us (sizes_of spells (before ++ u ∷ []) us) more
          = subst (λ (z : List ℕ). Read parsers (before ++ u ∷ []) z (later ++ more) us (sizes_of spells (before ++ u ∷ []) us) more) (size_push before u)
          (sent_read (before ++ u ∷ []) us more e.1) in
          (length one, sizes_of spells (before ++ u ∷ []) us, refl, ap (λ (z : List ℕ). parsers before (sizes_of spells [] before) z) grouped ∙ e.0 (later ++ more), rw after left)

      pub sent_received : (stream : List ℕ) (us : Units) → Sent spells stream us → EachPlace (Spelled parsers spells) [] us → Received parsers stream us (sizes_of spells [] us) [] None
      sent_received stream us s e = record {
        read = rw s.spelled (subst (λ (z : List ℕ). Read parsers [] [] z us (sizes_of spells [] us) []) (append-nil (flat_places spells [] us)) (sent_read [] us [] e));
        then_rest = (each us (sizes_of spells [] us)).none;
      }

      -- where spelled units go on, nothing is refused
      none_refused : (before : Units) (passed rest more : List ℕ) (us : Units) (r : Option Refusal) → passed ≡ sizes_of spells [] before
          → rest ++ more ≡ flat_places spells before us → EachPlace (Spelled parsers spells) before us → IsRest (parsers before passed) rest r → r ≡ None
      none_refused before passed rest more us None p s e k = refl
      none_refused before passed rest more [] (Some f) p s e k =
          let none : parsers before passed (rest ++ more) ≡ unfinished = ap (λ (z : List ℕ). parsers before passed z) s ∙ (each before passed).none in
          let some : parsers before passed (rest ++ more) ≡ parsers before passed rest = (each before passed).more rest more (λ none. cc) in
          cc
      none_refused before passed rest more (v ∷ vs) (Some f) p s e k =
          let unit : parsers before passed (rest ++ more) ≡ whole v (length (spells before v))
          = ap (λ (z : List ℕ). parsers before passed z) s
          ∙ (ap (λ (ns : List ℕ). parsers before ns (spells before v ++ flat_places spells (before ++ v ∷ []) vs)) p ∙ e.0 (flat_places spells (before ++ v ∷ []) vs)) in
          let some : parsers before passed (rest ++ more) ≡ parsers before passed rest = (each before passed).more rest more (λ none. cc) in
          cc

      -- what was spelled is read with these sizes, and what is received of it with the same
      record Again (stream parse_packet more : List ℕ) (sent us : Units) (ns rest : List ℕ) : Type 0 where
        front : IsPrefix us sent
        left : rest ++ more ≡ flat_places spells us front.rest
        sizes : ns ≡ sizes_of spells [] us
        later : EachPlace (Spelled parsers spells) us front.rest

      read_again : (stream parse_packet more : List ℕ) (sent us : Units) (ns rest : List ℕ) (r : Option Refusal)
          → Sent spells stream sent → EachPlace (Spelled parsers spells) [] sent → stream ≡ parse_packet ++ more → Received parsers parse_packet us ns rest r → Again stream parse_packet more sent us ns rest
      read_again stream parse_packet more sent us ns rest r s e cut h =
          let whole_received : Received parsers (parse_packet ++ more) sent (sizes_of spells [] sent) [] None
          = subst (λ (z : List ℕ). Received parsers z sent (sizes_of spells [] sent) [] None) cut (sent_received stream sent s e) in
          let is_front : IsPrefix us sent = received_front parse_packet more us sent ns (sizes_of spells [] sent) rest [] r None h whole_received in
          let others : Units = is_front.rest in
          let places : EachPlace (Spelled parsers spells) [] (us ++ others) = subst (λ (z : Units). EachPlace (Spelled parsers spells) [] z) is_front.whole_is e in
          let bytes : parse_packet ++ more ≡ flat_places spells [] us ++ flat_places spells us others
          = sym cut ∙ (s.spelled ∙ (ap (λ (z : Units). flat_places spells [] z) is_front.whole_is ∙ flat-append spells [] us others)) in
          let again : Read parsers [] [] (parse_packet ++ more) us (sizes_of spells [] us) (flat_places spells us others)
          = rw bytes (sent_read [] us (flat_places spells us others) (each-prefix (Spelled parsers spells) [] us others places)) in
          let own : Read parsers [] [] (parse_packet ++ more) us ns (rest ++ more) = read_more [] [] parse_packet more us ns rest h.read in
          record {
            front = is_front;
            left = read_rest [] [] (parse_packet ++ more) us ns (sizes_of spells [] us) (rest ++ more) (flat_places spells us others) own again;
            sizes = read_sizes [] [] (parse_packet ++ more) us ns (sizes_of spells [] us) (rest ++ more) (flat_places spells us others) own again;
            later = each-after (Spelled parsers spells) [] us others places;
          }

      pub link : (stream parse_packet more : List ℕ) (sent us : Units) (ns rest : List ℕ) (r : Option Refusal)
          → Sent spells stream sent → EachPlace (Spelled parsers spells) [] sent → stream ≡ parse_packet ++ more → Received parsers parse_packet us ns rest r → Linked us sent r
      link stream parse_packet more sent us ns rest r s e cut h =
          let a = read_again stream parse_packet more sent us ns rest r s e cut h in
          record { prefix = a.front; no_refusal = none_refused us ns rest more a.front.rest r a.sizes a.left a.later h.then_rest }

      pub link_sizes : (stream parse_packet more : List ℕ) (sent us : Units) (ns rest : List ℕ) (r : Option Refusal)
          → Sent spells stream sent → EachPlace (Spelled parsers spells) [] sent → stream ≡ parse_packet ++ more → Received parsers parse_packet us ns rest r → ns ≡ sizes_of spells [] us
      link_sizes stream parse_packet more sent us ns rest r s e cut h = (read_again stream parse_packet more sent us ns rest r s e cut h).sizes

      pub link_all : (stream : List ℕ) (sent us : Units) (ns rest : List ℕ) (r : Option Refusal)
          → Sent spells stream sent → EachPlace (Spelled parsers spells) [] sent → Received parsers stream us ns rest r → ReceivedAll us sent rest r
      link_all stream sent us ns rest r s e h =
          let same : Same us sent rest [] r None = one_reading stream us sent ns (sizes_of spells [] sent) rest [] r None h (sent_received stream sent s e) in
          record { all_units = same.same_units; none_left = same.same_rest; no_refusal = same.same_refusal }

-- what was sent, with more
pub sent_append : (spells : Units → List ℕ → List ℕ) (stream : List ℕ) (us more : Units) → Sent spells stream us → Sent spells (stream ++ flat_places spells us more) (us ++ more)
sent_append spells stream us more s = record { spelled = ap (λ (z : List ℕ). z ++ flat_places spells us more) s.spelled ∙ sym (flat-append spells [] us more) }

pub sent_push : (spells : Units → List ℕ → List ℕ) (stream : List ℕ) (us : Units) (u : List ℕ) → Sent spells stream us → Sent spells (stream ++ spells us u) (us ++ u ∷ [])
sent_push spells stream us u s = record { spelled = ap (λ (z : List ℕ). z ++ spells us u) s.spelled ∙ sym (flat-push spells [] us u) }

pub sent_same : (spells other : Units → List ℕ → List ℕ) (stream : List ℕ) (us : Units) → EachPlace (λ before u. spells before u ≡ other before u) [] us → Sent spells stream us → Sent other stream us
sent_same spells other stream us e s = record { spelled = s.spelled ∙ flat-same spells other [] us e }

-- Endpoints that used prefixes of one input used the same bytes of it.

use Rattle.std.proofs.Common.{◌≡◌, ◌≢◌, ◌⊎◌, inl, inr, ℕ, ◌+◌, List, [], ◌∷◌, ◌++◌, length, drop, Option, None, Some, refl, sym, ap, ◌∙◌, subst, append_assoc, arith}
use Rattle.std.proofs.lemmas.List.{append-nil, length-append}
use Rattle.sshpacket.specs.Parse.{Refusal, refused, unfinished}
use Rattle.sshpacket.specs.Places.{IsPrefix}
use Rattle.sshpacket.specs.Stream.{IsIncremental, IsRest, Parsers, Read, Units}
use Rattle.sshpacket.proofs.Places.{each-after, each-prefix, prefix-cons}
use Rattle.sshcore.specs.Directions.{parsers}
use Rattle.sshcore.specs.EndData.{EndData, Open}
use Rattle.sshcore.specs.History.{History, IsOneHistory}
use Rattle.sshcore.specs.EndpointParts.{Setup}
use Rattle.sshcore.specs.Replies.{Ends, StaysOpen, end_at, ended, goes_on, refusal_reply}
use Rattle.sshcore.proofs.HistoryLemmas.{Streams, each}
use Rattle.sshcore.proofs.OneHistory.{last_open, one_by}

-- of two lists that begin one list, one begins the other
either_front : (h g x y : List ℕ) → h ++ x ≡ g ++ y → ((z : List ℕ) × (g ≡ h ++ z) × (x ≡ z ++ y)) ⊎ ((z : List ℕ) × (h ≡ g ++ z) × (y ≡ z ++ x))
either_front [] g x y e = inl (g, refl, e)
either_front (a ∷ h) [] x y e = inr (a ∷ h, refl, sym e)
either_front (a ∷ h) (b ∷ g) x y e = after (either_front h g x y cc)
  where
    first : a ≡ b
    first = cc

    after : ((z : List ℕ) × (g ≡ h ++ z) × (x ≡ z ++ y)) ⊎ ((z : List ℕ) × (h ≡ g ++ z) × (y ≡ z ++ x))
        → ((z : List ℕ) × (b ∷ g ≡ a ∷ h ++ z) × (x ≡ z ++ y)) ⊎ ((z : List ℕ) × (a ∷ h ≡ b ∷ g ++ z) × (y ≡ z ++ x))
    after (inl (z, f, k)) = inl (z, (let one = first in cc), k)
    after (inr (z, f, k)) = inr (z, (let one = first in cc), k)

-- the front of nothing is nothing
none_front : (x z y : List ℕ) → x ≡ z ++ y → x ≡ [] → z ≡ []
none_front x [] y e none = refl
none_front x (b ∷ z) y e none = absurd cc

-- nothing stands after a list that is no longer with it
none_longer : (rest z : List ℕ) → length (rest ++ z) ≡ length rest → z ≡ []
none_longer rest [] e = refl
none_longer rest (b ∷ z) e = let size : length (rest ++ b ∷ z) ≡ length rest + length (b ∷ z) = length-append rest (b ∷ z) in absurd (omega (arith, e, size))

-- what stands before the last unit begins with the units of which that isn't one
pub before_last : (b c : Units) (l u w : List ℕ) (ws : Units) → b ++ l ∷ [] ≡ c ++ u ∷ w ∷ ws → IsPrefix (c ++ u ∷ []) b
before_last [] [] l u w ws e = absurd cc
before_last (x ∷ b) [] l u w ws e = let first : x ≡ u = cc in record { rest = b; whole_is = cc }
before_last [] (y ∷ []) l u w ws e = absurd cc
before_last [] (y ∷ z ∷ c) l u w ws e = absurd cc
before_last (x ∷ b) (y ∷ c) l u w ws e =
    let first : x ≡ y = cc in
    subst (λ (v : List ℕ). IsPrefix (y ∷ (c ++ u ∷ [])) (v ∷ b)) (sym first) (prefix-cons y (c ++ u ∷ []) b (before_last b c l u w ws cc))

module _ (parsers : Parsers) where
  -- of what was read, the units after the first ones
  pub read_after : (before : Units) (passed bytes : List ℕ) (us w : Units) (ns ms x y : List ℕ) → Read parsers before passed bytes us ns x → Read parsers before passed bytes (us ++ w) ms y
      → (more : List ℕ) × (ms ≡ ns ++ more) × Read parsers (before ++ us) (passed ++ ns) x w more y
  read_after before passed bytes [] w ns ms x y (s, a) b = (
    ms,
    ap (λ (z : List ℕ). z ++ ms) (sym s),
    subst (λ (c : Units). Read parsers c (passed ++ ns) x w ms y) (sym (append-nil before))
        (subst (λ (z : List ℕ). Read parsers before z x w ms y) (sym (ap (λ (z : List ℕ). passed ++ z) s ∙ append-nil passed)) (subst (λ (z : List ℕ). Read parsers before passed z w ms y) a b)),
  )
  read_after before passed bytes (u ∷ us) w ns ms x y (len, others, s, e, a) (n, more, t, f, b) =
      let size : n ≡ len = cc in
      let after = read_after (before ++ u ∷ []) (passed ++ len ∷ []) (drop len bytes) us w others more x y a
      (subst (λ (k : ℕ). Read parsers (before ++ u ∷ []) (passed ++ k ∷ []) (drop k bytes) (us ++ w) more y) size b) in (
        after.0,
        t ∙ ap (λ (k : ℕ). k ∷ more) size ∙ ap (λ (z : List ℕ). len ∷ z) after.1 ∙ ap (λ (z : List ℕ). z ++ after.0) (sym s),
        subst (λ (c : Units). Read parsers c (passed ++ ns) x w after.0 y) (append_assoc before (u ∷ []) us)
            (subst (λ (z : List ℕ). Read parsers ((before ++ u ∷ []) ++ us) z x w after.0 y) (append_assoc passed (len ∷ []) others ∙ ap (λ (z : List ℕ). passed ++ z) (sym s)) after.2),
      )

  module _ (each : (us : Units) (ns : List ℕ) → IsIncremental (parsers us ns)) where
    -- nothing is received after a refusal
    none_refused : (us w : Units) (ns ms rest z y : List ℕ) (f : Refusal) (q : Option Refusal)
        → parsers us ns rest ≡ refused f (length rest) → Read parsers us ns (rest ++ z) w ms y → IsRest (parsers (us ++ w) (ns ++ ms)) y q → z ≡ []
    none_refused us [] ns ms rest z y f None k (s, a) last =
        let again : parsers us ns (rest ++ z) ≡ refused f (length rest) = (each us ns).more rest z (λ none. cc) ∙ k in
        let here : parsers us ns y ≡ unfinished
        = subst (λ (b : Units). parsers b ns y ≡ unfinished) (append-nil us)
        (subst (λ (l : List ℕ). parsers (us ++ []) l y ≡ unfinished) (ap (λ (l : List ℕ). ns ++ l) s ∙ append-nil ns) last) in
        let same : parsers us ns (rest ++ z) ≡ parsers us ns y = ap (λ (l : List ℕ). parsers us ns l) a in
        absurd cc
    none_refused us [] ns ms rest z y f (Some g) k (s, a) last =
        let again : parsers us ns (rest ++ z) ≡ refused f (length rest) = (each us ns).more rest z (λ none. cc) ∙ k in
        let here : parsers us ns y ≡ refused g (length y)
        = subst (λ (b : Units). parsers b ns y ≡ refused g (length y)) (append-nil us)
        (subst (λ (l : List ℕ). parsers (us ++ []) l y ≡ refused g (length y)) (ap (λ (l : List ℕ). ns ++ l) s ∙ append-nil ns) last) in
        let same : parsers us ns (rest ++ z) ≡ parsers us ns y = ap (λ (l : List ℕ). parsers us ns l) a in
        let size : length y ≡ length rest = cc in
        none_longer rest z (ap length a ∙ size)
    none_refused us (u ∷ w) ns ms rest z y f q k (len, others, s, e, a) last =
        let again : parsers us ns (rest ++ z) ≡ refused f (length rest) = (each us ns).more rest z (λ none. cc) ∙ k in
        absurd cc

module _ (setup : Setup) where
  -- where more units were received after one, it left the endpoint open
  open_within : (units before : Units) (u w : List ℕ) (ws : Units) (r : Option Refusal) (end : EndData)
      → Ends setup units r end → units ≡ before ++ u ∷ w ∷ ws → end_at setup before u ≡ Open
  open_within units before u w ws r end (goes_on stays e) are =
      (each-after (λ b v. end_at setup b v ≡ Open) [] before (u ∷ w ∷ ws) (subst (StaysOpen setup) are stays)).0
  open_within units before u w ws r end (ended front last is stays e shut none) are =
      let p : IsPrefix (before ++ u ∷ []) front = before_last front before last u w ws (sym is ∙ are) in
      last_open setup (before ++ u ∷ []) before u refl
      (each-prefix (λ b v. end_at setup b v ≡ Open) [] (before ++ u ∷ []) p.rest (subst (StaysOpen setup) p.whole_is stays))

  -- where the last unit ended the endpoint, it has ended, and nothing was refused
  shut_after : (units before : Units) (u : List ℕ) (r : Option Refusal) (end : EndData)
      → Ends setup units r end → units ≡ before ++ u ∷ [] → end_at setup before u ≢ Open → (end ≢ Open) × (r ≡ None)
  shut_after units before u r end (goes_on stays e) are shut = absurd (shut (last_open setup units before u are stays))
  shut_after units before u r end (ended front last is stays e closed none) are shut = (closed, none)

module _ (streams : Streams) (setup : Setup) where
  -- an endpoint that isn't open uses no byte more
  none_used : (units other_units : Units) (sizes other_sizes rest other_rest : List ℕ) (r other_r : Option Refusal) (answers other_answers : Units) (end other_end : EndData) (h z s t : List ℕ)
      → History setup units sizes rest r answers end h s → History setup other_units other_sizes other_rest other_r other_answers other_end (h ++ z) t
      → (end ≡ Open → z ≡ []) → z ≡ []
  none_used units other_units sizes other_sizes rest other_rest r other_r answers other_answers end other_end h z s t a b all = by_ends a.replies.ends
    where
      front : IsPrefix units other_units
      front = streams.front (parsers setup.suite setup.role setup.config) (each streams setup.suite setup.role setup.config) h z units other_units sizes other_sizes rest other_rest r other_r a.received b.received

      after : (more : List ℕ) × (other_sizes ≡ sizes ++ more) × Read (parsers setup.suite setup.role setup.config) units sizes (rest ++ z) front.rest more other_rest
      after = read_after (parsers setup.suite setup.role setup.config) [] [] (h ++ z) units front.rest sizes other_sizes (rest ++ z) other_rest
          (streams.more (parsers setup.suite setup.role setup.config) (each streams setup.suite setup.role setup.config) [] [] h z units sizes rest a.received.read)
          (subst (λ (us : Units). Read (parsers setup.suite setup.role setup.config) [] [] (h ++ z) us other_sizes other_rest) front.whole_is b.received.read)

      by_refusal : (q : Option Refusal) → r ≡ q → end ≡ (refusal_reply q).end → z ≡ []
      by_refusal None is e = all e
      by_refusal (Some f) is e =
          none_refused (parsers setup.suite setup.role setup.config) (each streams setup.suite setup.role setup.config) units front.rest sizes after.0 rest z other_rest f other_r
          (subst (λ (q : Option Refusal). IsRest (parsers setup.suite setup.role setup.config units sizes) rest q) is a.received.then_rest)
          after.2
          (subst (λ (ns : List ℕ). IsRest (parsers setup.suite setup.role setup.config (units ++ front.rest) ns) other_rest other_r) after.1
          (subst (λ (us : Units). IsRest (parsers setup.suite setup.role setup.config us other_sizes) other_rest other_r) front.whole_is b.received.then_rest))

      -- the unit that ended the endpoint is the last of both
      by_last : (before : Units) (u : List ℕ) (w : Units) → units ≡ before ++ u ∷ [] → other_units ≡ units ++ w → (more : List ℕ) → Read (parsers setup.suite setup.role setup.config) units sizes (rest ++ z) w more other_rest
          → end_at setup before u ≢ Open → rest ≡ [] → z ≡ []
      by_last before u [] is are more read shut none =
          let both = shut_after setup other_units before u other_r other_end b.replies.ends (are ∙ append-nil units ∙ is) shut in
          let left : rest ++ z ≡ [] = read.1 ∙ b.last both.0 both.1 in
          ap (λ (l : List ℕ). l ++ z) (sym none) ∙ left
      by_last before u (w ∷ ws) is are more read shut none =
          absurd (shut (open_within setup other_units before u w ws other_r other_end b.replies.ends
          (are ∙ ap (λ (us : Units). us ++ w ∷ ws) is ∙ append_assoc before (u ∷ []) (w ∷ ws))))

      by_ends : Ends setup units r end → z ≡ []
      by_ends (goes_on stays e) = by_refusal r refl e
      by_ends (ended before last is stays e shut none) =
          by_last before last front.rest is front.whole_is after.0 after.2 (λ o. shut (e ∙ o)) (a.last shut none)

  -- the histories of two endpoints that were given one input, of which each uses a prefix, and all of it while it stands open
  pub joined : (units other_units : Units) (sizes other_sizes rest other_rest : List ℕ) (r other_r : Option Refusal) (answers other_answers : Units) (end other_end : EndData) (h g s t x y : List ℕ)
      → History setup units sizes rest r answers end h s → History setup other_units other_sizes other_rest other_r other_answers other_end g t
      → h ++ x ≡ g ++ y → (end ≡ Open → x ≡ []) → (other_end ≡ Open → y ≡ [])
      → (h ≡ g) × IsOneHistory units other_units rest other_rest r other_r answers other_answers end other_end s t
  joined units other_units sizes other_sizes rest other_rest r other_r answers other_answers end other_end h g s t x y a b e all other_all = (same, one)
    where
      by_front : ((z : List ℕ) × (g ≡ h ++ z) × (x ≡ z ++ y)) ⊎ ((z : List ℕ) × (h ≡ g ++ z) × (y ≡ z ++ x)) → h ≡ g
      by_front (inl (z, is, left)) =
          let none : z ≡ [] = none_used units other_units sizes other_sizes rest other_rest r other_r answers other_answers end other_end h z s t a
          (subst (λ (l : List ℕ). History setup other_units other_sizes other_rest other_r other_answers other_end l t) is b)
          (λ o. none_front x z y left (all o)) in
          sym (is ∙ ap (λ (l : List ℕ). h ++ l) none ∙ append-nil h)
      by_front (inr (z, is, left)) =
          let none : z ≡ [] = none_used other_units units other_sizes sizes other_rest rest other_r r other_answers answers other_end end g z t s b
          (subst (λ (l : List ℕ). History setup units sizes rest r answers end l s) is a)
          (λ o. none_front y z x left (other_all o)) in
          is ∙ ap (λ (l : List ℕ). g ++ l) none ∙ append-nil g

      same : h ≡ g
      same = by_front (either_front h g x y e)

      at_same : History setup other_units other_sizes other_rest other_r other_answers other_end h t
      at_same = subst (λ (l : List ℕ). History setup other_units other_sizes other_rest other_r other_answers other_end l t) (sym same) b

      one : IsOneHistory units other_units rest other_rest r other_r answers other_answers end other_end s t
      one = one_by setup units other_units r other_r sizes other_sizes rest other_rest answers other_answers end other_end h s t
          (streams.one (parsers setup.suite setup.role setup.config) h units other_units sizes other_sizes rest other_rest r other_r a.received at_same.received) a at_same

-- What one direction of bytes reads as, and what it was written as: units one after another. A unit is the text of the
-- version line, or a payload after it; how one is read or spelled may depend on the units before it.

use Rattle.std.specs.Prelude.{◌≡◌, ℕ, ◌≤◌, List, [], ◌∷◌, ◌++◌, length, drop, take, Option, None, Some}
use Rattle.sshpacket.specs.Parse.{Parse, Refusal, refused, unfinished, whole}
use Rattle.sshpacket.specs.Places.{IsPrefix, flat_places}

-- The bytes of a unit may be spelled in several ways, since padding may vary, and a cipher may go on where the packet before it
-- ended; so how one is read may also depend on how many bytes each unit before it had.

-- the units of a direction, as they stand in it
abbrev pub Units : Type 0
Units = List (List ℕ)

-- how one unit is read at the front of the bytes
abbrev pub Parser : Type 0
Parser = List ℕ → Parse

-- how the next unit is read after these units of these sizes. Padding may vary, so the units don't decide their sizes
abbrev pub Parsers : Type 0
Parsers = Units → List ℕ → Parser

-- nothing stands in no bytes; more bytes after them change no answer; a unit lies within the bytes; and the bytes up to where a
-- unit or a refusal ends are enough to answer it
pub record IsIncremental (parser : Parser) : Type 0 where
  pub none : parser [] ≡ unfinished
  pub more : (bytes more : List ℕ) → (parser bytes ≡ unfinished → ⊥) → parser (bytes ++ more) ≡ parser bytes
  pub within : (bytes unit : List ℕ) (len : ℕ) → parser bytes ≡ whole unit len → len ≤ length bytes
  -- a unit's own bytes read as it
  pub whole_again : (bytes unit : List ℕ) (len : ℕ) → parser bytes ≡ whole unit len → parser (take len bytes) ≡ whole unit len
  -- what decides a refusal lies within the bytes, and is refused alone
  pub refused_again : (bytes : List ℕ) (r : Refusal) (len : ℕ) → parser bytes ≡ refused r len → (len ≤ length bytes) × (parser (take len bytes) ≡ refused r len)

-- after the units before, which had these sizes, the bytes read as these units of these sizes, and the rest stands after them
abbrev pub Read : Parsers → Units → List ℕ → List ℕ → Units → List ℕ → List ℕ → Type 0
Read parsers before passed bytes [] sizes rest = (sizes ≡ []) × (bytes ≡ rest)
Read parsers before passed bytes (u ∷ us) sizes rest =
    (len : ℕ) × (others : List ℕ) × (sizes ≡ len ∷ others) × (parsers before passed bytes ≡ whole u len)
    × Read parsers (before ++ u ∷ []) (passed ++ len ∷ []) (drop len bytes) us others rest

-- in the rest a unit is unfinished, or its last byte decides the refusal
abbrev pub IsRest : Parser → List ℕ → Option Refusal → Type 0
IsRest parser rest None = parser rest ≡ unfinished
IsRest parser rest (Some f) = parser rest ≡ refused f (length rest)

-- what a stream reads as: its units, of these sizes, the rest after them, and the refusal, if it is refused there (RFC 4253 sections 4.2
-- and 6)
pub record Received (parsers : Parsers) (stream : List ℕ) (units : Units) (sizes rest : List ℕ) (refusal : Option Refusal) : Type 0 where
  pub read : Read parsers [] [] stream units sizes rest
  pub then_rest : IsRest (parsers units sizes) rest refusal

-- what a stream was written as: each unit as it is spelled after those before it (RFC 4253 sections 4.2 and 6)
pub record Sent (spells : Units → List ℕ → List ℕ) (stream : List ℕ) (units : Units) : Type 0 where
  pub spelled : stream ≡ flat_places spells [] units

-- how many bytes each place is spelled with
abbrev pub sizes_of : (Units → List ℕ → List ℕ) → Units → Units → List ℕ
sizes_of spells before us = flat_places (λ passed u. length (spells passed u) ∷ []) before us

-- what is spelled at this place is read there, whatever follows
abbrev pub Spelled : Parsers → (Units → List ℕ → List ℕ) → Units → List ℕ → Type 0
Spelled parsers spells before u = (more : List ℕ) → parsers before (sizes_of spells [] before) (spells before u ++ more) ≡ whole u (length (spells before u))

-- two readings of one stream are the same
pub record Same (units other_units : Units) (rest other_rest : List ℕ) (refusal other_refusal : Option Refusal) : Type 0 where
  pub same_units : units ≡ other_units
  pub same_rest : rest ≡ other_rest
  pub same_refusal : refusal ≡ other_refusal

-- what is received of a prefix of what was sent: a prefix of the units sent, and no refusal
pub record Linked (units sent : Units) (refusal : Option Refusal) : Type 0 where
  pub prefix : IsPrefix units sent
  pub no_refusal : refusal ≡ None

-- what is received of all that was sent: all the units sent, with nothing after them, and no refusal
pub record ReceivedAll (units sent : Units) (rest : List ℕ) (refusal : Option Refusal) : Type 0 where
  pub all_units : units ≡ sent
  pub none_left : rest ≡ []
  pub no_refusal : refusal ≡ None

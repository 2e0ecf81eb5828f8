-- What is read of bytes that begin as they were spelled.

use Rattle.std.proofs.Common.{◌≡◌, ◌⊎◌, inl, inr, ℕ, List, [], ◌∷◌, ◌++◌, length, drop, refl, sym, ap, subst, ◌∙◌, append_assoc}
use Rattle.std.proofs.Math.Seq.{drop-append_seam}
use Rattle.sshpacket.specs.Parse.{whole}
use Rattle.sshpacket.specs.Places.{EachPlace, IsPrefix, flat_places}
use Rattle.sshpacket.specs.Stream.{Parsers, Read, Spelled, Units, sizes_of}
use Rattle.sshpacket.proofs.Places.{flat-push, prefix-cons}

-- one of two lists is a prefix of the other
abbrev pub OneWay : Units → Units → Type 0
OneWay us sent = IsPrefix us sent ⊎ IsPrefix sent us

one_more : (u p : List ℕ) (us sent : Units) → u ≡ p → OneWay us sent → OneWay (u ∷ us) (p ∷ sent)
one_more u p us sent e (inl f) = inl (subst (λ (w : List ℕ). IsPrefix (w ∷ us) (p ∷ sent)) (sym e) (prefix-cons p us sent f))
one_more u p us sent e (inr f) = inr (subst (λ (w : List ℕ). IsPrefix (p ∷ sent) (w ∷ us)) (sym e) (prefix-cons p sent us f))

module _ (parsers : Parsers) (spells : Units → List ℕ → List ℕ) where
  -- the unit at the front is the one that was spelled there, and after it stand the bytes that stand after that
  record First (before : Units) (p u : List ℕ) (len : ℕ) (bytes after : List ℕ) : Type 0 where
    same : u ≡ p
    size : len ≡ length (spells before p)
    left : drop len bytes ≡ after

  first : (before : Units) (p u : List ℕ) (len : ℕ) (bytes after : List ℕ) → bytes ≡ spells before p ++ after → Spelled parsers spells before p → parsers before (sizes_of spells [] before) bytes ≡ whole u len
      → First before p u len bytes after
  first before p u len bytes after e spelled reads =
      let is : whole u len ≡ whole p (length (spells before p)) = sym reads ∙ (ap (λ (b : List ℕ). parsers before (sizes_of spells [] before) b) e ∙ spelled after) in
      let size : len ≡ length (spells before p) = cc in
      record {
        same = cc;
        size = size;
        left = ap (λ (n : ℕ). drop n bytes) size ∙ (ap (λ (b : List ℕ). drop (length (spells before p)) b) e ∙ drop-append_seam (spells before p) after);
      }

  first_of : (before : Units) (p u : List ℕ) (sent : Units) (len : ℕ) (bytes tail : List ℕ) → bytes ≡ flat_places spells before (p ∷ sent) ++ tail → Spelled parsers spells before p → parsers before (sizes_of spells [] before) bytes ≡ whole u len
      → First before p u len bytes (flat_places spells (before ++ p ∷ []) sent ++ tail)
  first_of before p u sent len bytes tail e spelled reads =
      first before p u len bytes (flat_places spells (before ++ p ∷ []) sent ++ tail) (e ∙ append_assoc (spells before p) (flat_places spells (before ++ p ∷ []) sent) tail) spelled reads

  -- the next place has one size more
  size_more : (before : Units) (p : List ℕ) (len : ℕ) → len ≡ length (spells before p) → sizes_of spells [] before ++ len ∷ [] ≡ sizes_of spells [] (before ++ p ∷ [])
  size_more before p len e =
      ap (λ (n : ℕ). sizes_of spells [] before ++ n ∷ []) e ∙ sym (flat-push (λ (passed : Units) (w : List ℕ). length (spells passed w) ∷ []) [] before p)

  -- What is read is a prefix of what was spelled, or what was spelled is one of what is read.
  pub one_way : (before sent us : Units) (ns bytes tail rest : List ℕ) → bytes ≡ flat_places spells before sent ++ tail → EachPlace (Spelled parsers spells) before sent → Read parsers before (sizes_of spells [] before) bytes us ns rest
      → OneWay us sent
  one_way before [] us ns bytes tail rest e each r = inr (record { rest = us; whole_is = refl })
  one_way before (p ∷ sent) [] ns bytes tail rest e each r = inl (record { rest = p ∷ sent; whole_is = refl })
  one_way before (p ∷ sent) (u ∷ us) ns bytes tail rest e each (len, others, sizes, reads, later) =
      let f = first_of before p u sent len bytes tail e each.0 reads in
      one_more u p us sent f.same (one_way (before ++ p ∷ []) sent us others (drop len bytes) tail rest f.left each.1
      (subst (λ (ns : List ℕ). Read parsers (before ++ p ∷ []) ns (drop len bytes) us others rest) (size_more before p len f.size)
      (subst (λ (w : List ℕ). Read parsers (before ++ w ∷ []) (sizes_of spells [] before ++ len ∷ []) (drop len bytes) us others rest) f.same later)))

  -- After all that was spelled stands what stands after its bytes.
  pub after_all : (before sent : Units) (ns bytes tail rest : List ℕ) → bytes ≡ flat_places spells before sent ++ tail → EachPlace (Spelled parsers spells) before sent → Read parsers before (sizes_of spells [] before) bytes sent ns rest
      → rest ≡ tail
  after_all before [] ns bytes tail rest e each r = sym r.1 ∙ e
  after_all before (p ∷ sent) ns bytes tail rest e each (len, others, sizes, reads, later) =
      let f = first_of before p p sent len bytes tail e each.0 reads in
      after_all (before ++ p ∷ []) sent others (drop len bytes) tail rest f.left each.1
      (subst (λ (ns : List ℕ). Read parsers (before ++ p ∷ []) ns (drop len bytes) sent others rest) (size_more before p len f.size) later)

-- What a list has for an ID, as a part of the list. Inner contracts alone cite this; what text an ID has is said by
-- Text, of the definitions.
use Rattle.std.specs.Prelude.{ℕ, ◌+◌, ◌≡◌, List, [], ◌∷◌, take, drop, Option, Some, None}
use Rattle.std.specs.Borrow.{Bor}
use Rattle.baos.specs.TextList.{EntryAt}
use Rattle.baos.specs.Text.{entries_for}

-- the text of an entry of the list s: it lies there, in that list and at that place, with its bytes
pub record TextOf (e : EntryAt) (s text : Bor (List ℕ)) : Type 0 where
  pub list : text.ref_ptr.0 ≡ s.ref_ptr.0
  pub place : text.ref_ptr.1 ≡ e.from + s.ref_ptr.1
  pub bytes : text.now ≡ take e.size (drop e.from s.now)

-- none that is not empty, or the text of the only one
abbrev pub TextIn : ℕ → Bor (List ℕ) → Option (Bor (List ℕ)) → Type 0
TextIn id s None = entries_for id s.now ≡ []
TextIn id s (Some text) = (e : EntryAt) × (entries_for id s.now ≡ e ∷ []) × TextOf e s text

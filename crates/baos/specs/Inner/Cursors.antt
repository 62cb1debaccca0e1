-- Where a search that goes forward stands in the lists. Inner contracts alone cite these; what text an ID has is said
-- by Text.
use Rattle.std.specs.Prelude.{if◌then◌else◌, ℕ, ◌+◌, ◌≤◌, ◌≡◌, List, [], ◌∷◌, ltb, eqb}
use Rattle.baos.specs.declared.inner.Cursors.{Cursors}
use Rattle.baos.specs.TextList.{EntryAt, entries_in}
use Rattle.baos.specs.Text.{TextLists}

-- how many bytes the entries take that stand in front of the first with this ID or a higher one
unfoldable pub place_in : ℕ → List EntryAt → ℕ
place_in id [] = 0
place_in id (e ∷ es) = if ltb e.id id then 3 + e.size + place_in id es else 0

abbrev pub place_of : ℕ → List ℕ → ℕ
place_of id s = place_in id (entries_in s)

unfoldable pub cursors_of : ℕ → TextLists → Cursors
cursors_of id ts = record { site = place_of id ts.site; defaults = place_of id ts.defaults }

-- the start of both lists
abbrev pub at_start : Cursors
at_start = record { site = 0; defaults = 0 }

-- at byte `at` of the list s a search for this ID can go on: there one for a lower ID, or for the same, has ended
pub record Reached (id : ℕ) (s : List ℕ) (at : ℕ) : Type 0 where
  pub low : ℕ
  pub below : low ≤ id
  pub place : at ≡ place_of low s

-- the same in both lists
pub record BothReached (id : ℕ) (ts : TextLists) (c : Cursors) : Type 0 where
  pub site : Reached id ts.site c.site
  pub defaults : Reached id ts.defaults c.defaults

-- what a list has for an ID whose entry begins at byte `at` and has a text of so many bytes: that, or none where they
-- are 0
unfoldable pub entry_here : ℕ → ℕ → ℕ → List EntryAt
entry_here id at size = if eqb size 0 then [] else record { id = id; from = at + 3; size = size } ∷ []

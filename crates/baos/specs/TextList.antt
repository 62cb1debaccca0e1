-- A text list: "A list entry is an ID of two bytes, a length byte of 0 to 30 and the text. Lists are lent, strictly
-- rising by ID, and are only read." (document 02, item 1)
use Rattle.std.specs.Prelude.{ℕ, zero, suc, ◌+◌, ◌≤◌, ◌<◌, ◌≡◌, Bool, true, false, ◌&&◌, length, get_or, drop, leb, eqb}
use mathlib.Core.List.{List, [], ◌∷◌, ◌++◌, map, flatten}
use Rattle.words.specs.Words.{two_bytes, of_two_bytes}

-- ---- in the paper's words
-- a list entry: whose ID it is, and the text
pub record ListEntry : Type 0 where
  pub id : ℕ
  pub text : List ℕ

-- its bytes: "an ID of two bytes, a length byte [..] and the text"
unfoldable pub list_entry_bytes : ListEntry → List ℕ
list_entry_bytes e = two_bytes e.id ++ length e.text ∷ e.text

-- one entry behind the other
abbrev pub list_bytes : List ListEntry → List ℕ
list_bytes es = flatten (map list_entry_bytes es)

-- The bytes s are a list "made of whole entries", which are these. (`e` stands where there is no entry, and so
-- nowhere.)
pub record MadeOf (es : List ListEntry) (s : List ℕ) : Type 0 where
  pub whole : s ≡ list_bytes es
  -- "an ID of two bytes"
  pub ids : (i : ℕ) (e : ListEntry) → i < length es → (get_or es i e).id < 65536
  -- "a length byte of 0 to 30"
  pub lengths : (i : ℕ) (e : ListEntry) → i < length es → length (get_or es i e).text ≤ 30
  -- "strictly rising by ID"; 0 may come first, since "1 or more" is said of tables
  pub strictly : (i j : ℕ) (e : ListEntry) → i < j → j < length es → (get_or es i e).id < (get_or es j e).id

-- ---- as a test
-- an entry, found in a list: its ID, where its text begins in the list, and how many bytes that has
pub record EntryAt : Type 0 where
  pub id : ℕ
  pub from : ℕ
  pub size : ℕ

-- how many bytes the first entry of the bytes s takes
abbrev pub span_of : List ℕ → ℕ
span_of s = 3 + get_or s 2 0

-- it is whole, and its length is one that an entry may have
unfoldable pub is_entry : List ℕ → Bool
is_entry s = leb 3 (length s) && leb (get_or s 2 0) 30 && leb (span_of s) (length s)

-- the first entry of the bytes s, which begin at byte `at` of the list
abbrev pub first_entry : ℕ → List ℕ → EntryAt
first_entry at s = record { id = of_two_bytes (get_or s 0 0) (get_or s 1 0); from = at + 3; size = get_or s 2 0 }

-- the entries of the bytes s, which begin at byte `at` of the list, as far as they are whole; they are n at most
unfoldable pub entries_from : ℕ → ℕ → List ℕ → List EntryAt
entries_from zero at s = []
entries_from (suc n) at s =
    elim (is_entry s) [ true ↦ first_entry at s ∷ entries_from n (at + span_of s) (drop (span_of s) s) | false ↦ [] ]

-- those from byte `at` of the list on: each takes three bytes or more, so that they are no more than its bytes
unfoldable pub entries_at : ℕ → List ℕ → List EntryAt
entries_at at s = entries_from (length (drop at s)) at (drop at s)

-- all of a list
abbrev pub entries_in : List ℕ → List EntryAt
entries_in s = entries_at 0 s

-- how many bytes they take
unfoldable pub bytes_taken : List EntryAt → ℕ
bytes_taken [] = 0
bytes_taken (e ∷ es) = 3 + e.size + bytes_taken es

-- their IDs rise strictly, and none is below `least`
unfoldable pub rise_from : ℕ → List EntryAt → Bool
rise_from least [] = true
rise_from least (e ∷ es) = leb least e.id && rise_from (suc e.id) es

-- the bytes s are a list: in order, and made of whole entries to the last byte. Where they are not, "call refusal 1"
unfoldable pub text_list_ok : List ℕ → Bool
text_list_ok s = rise_from 0 (entries_in s) && eqb (bytes_taken (entries_in s)) (length s)

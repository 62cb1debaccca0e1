-- The text of an ID: "the text comes from the site list, failing that the default list, where that has a non-empty
-- entry for the ID, else it is the empty start of the default list, and it is handed on as that stretch of whichever
-- list held it" (document 02, item 1).
use Rattle.std.specs.Prelude.{cond, ℕ, ◌+◌, ◌≡◌, Bool, true, false, ◌&&◌, List, [], ◌∷◌, take, drop, ltb, eqb}
use Rattle.std.specs.Borrow.{Bor}
use Rattle.words.specs.Words.{keep}
use Rattle.baos.specs.TextList.{EntryAt, entries_in, text_list_ok}

-- the two lists that are lent
pub record TextLists : Type 0 where
  pub site : List ℕ
  pub defaults : List ℕ

abbrev pub text_lists : List ℕ → List ℕ → TextLists
text_lists site defaults = record { site = site; defaults = defaults }

-- none brought, none shipped
abbrev pub no_text_lists : TextLists
no_text_lists = text_lists [] []

unfoldable pub text_lists_ok : TextLists → Bool
text_lists_ok ts = text_list_ok ts.site && text_list_ok ts.defaults

-- a part of one of the two lists: of the site list, as against the default list
pub record Stretch : Type 0 where
  pub ofsite : Bool
  pub from : ℕ
  pub size : ℕ

-- the entries of a list "for the ID" that are "non-empty": in a list whose IDs rise, none or one
unfoldable pub entries_for : ℕ → List ℕ → List EntryAt
entries_for id s = keep (λ (e : EntryAt). eqb e.id id && ltb 0 e.size) (entries_in s)

-- the site list's, failing that the default list's, "else it is the empty start of the default list"
unfoldable pub chosen : List EntryAt → List EntryAt → Stretch
chosen (e ∷ es) ds = record { ofsite = true; from = e.from; size = e.size }
chosen [] (d ∷ ds) = record { ofsite = false; from = d.from; size = d.size }
chosen [] [] = record { ofsite = false; from = 0; size = 0 }

unfoldable pub stretch_of : ℕ → TextLists → Stretch
stretch_of id ts = chosen (entries_for id ts.site) (entries_for id ts.defaults)

-- "whichever list held it"
abbrev pub holder {ℓ} : {A : Type ℓ} → Stretch → A → A → A
holder s site defaults = cond s.ofsite site defaults

-- the bytes of that stretch
unfoldable pub stretch_bytes : Stretch → TextLists → List ℕ
stretch_bytes s ts = take s.size (drop s.from (holder s ts.site ts.defaults))

-- the text of an ID
unfoldable pub text_of : ℕ → TextLists → List ℕ
text_of id ts = stretch_bytes (stretch_of id ts) ts

-- "handed on as that stretch of whichever list held it": r lies there, in that list and at that place, with its bytes
pub record HandedOn (s : Stretch) (site defaults r : Bor (List ℕ)) : Type 0 where
  pub list : r.ref_ptr.0 ≡ (holder s site defaults).ref_ptr.0
  pub place : r.ref_ptr.1 ≡ s.from + (holder s site defaults).ref_ptr.1
  pub bytes : r.now ≡ stretch_bytes s (text_lists site.now defaults.now)

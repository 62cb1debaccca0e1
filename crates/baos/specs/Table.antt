-- The tables, when they are well formed, and how an entry is found and changed. One rule for items and datapoints.
use Rattle.std.specs.Prelude.{if◌then◌else◌, ℕ, suc, ◌≤◌, ◌<◌, Bool, true, ◌&&◌, List, [], ◌∷◌, map, length, get_or, leb, ltb, eqb}
use Rattle.words.specs.Words.{every}
use Rattle.baos.specs.Text.{TextLists, no_text_lists, text_lists_ok}
use Rattle.baos.specs.declared.datapoint.Datapoint.{Datapoint}
use Rattle.baos.specs.declared.item.Item.{Item}
use Rattle.baos.specs.Datapoint.{datapoint_id, datapoint_ok}
use Rattle.baos.specs.Item.{item_id, item_ok}

pub record Tables : Type 0 where
  pub datapoints : List Datapoint
  pub items : List Item
  pub parameters : List ℕ
  -- "are only read"
  pub texts : TextLists

abbrev pub tables_of : List Datapoint → List Item → List ℕ → TextLists → Tables
tables_of ds is ps ts = record { datapoints = ds; items = is; parameters = ps; texts = ts }

abbrev pub no_tables : Tables
no_tables = tables_of [] [] [] no_text_lists

-- one table replaced, the others as they are
abbrev pub with_datapoints : List Datapoint → Tables → Tables
with_datapoints ds t = tables_of ds t.items t.parameters t.texts

abbrev pub with_items : List Item → Tables → Tables
with_items is t = tables_of t.datapoints is t.parameters t.texts

abbrev pub with_parameters : List ℕ → Tables → Tables
with_parameters ps t = tables_of t.datapoints t.items ps t.texts

-- tables of which one alone is looked at
abbrev pub datapoints_only : List Datapoint → Tables
datapoints_only ds = with_datapoints ds no_tables

abbrev pub items_only : List Item → Tables
items_only is = with_items is no_tables

abbrev pub parameters_only : List ℕ → Tables
parameters_only ps = with_parameters ps no_tables

-- tables of which datapoints and texts alone are looked at
abbrev pub datapoints_with_texts : List Datapoint → TextLists → Tables
datapoints_with_texts ds ts = tables_of ds [] [] ts

-- the numbers rise strictly, from above `last`
unfoldable pub rising : ℕ → List ℕ → Bool
rising last [] = true
rising last (x ∷ xs) = ltb last x && rising x xs

-- "IDs are 1 or more and strictly rise"
pub record Rises (ids : List ℕ) : Type 0 where
  pub positive : (i : ℕ) → i < length ids → 1 ≤ get_or ids i 0
  pub strictly : (i j : ℕ) → i < j → j < length ids → get_or ids i 0 < get_or ids j 0

-- "no more entries than above, IDs are 1 or more and strictly rise", and each entry passes its test
unfoldable pub table_ok : {A : Type 0} → ℕ → (A → ℕ) → (A → Bool) → List A → Bool
table_ok most id_of ok xs = leb (length xs) most && rising 0 (map id_of xs) && every ok xs

-- datapoints 0 to 1000, items 0 to 64, parameter bytes 0 to 255; the text lists in order and made of whole entries
unfoldable pub well_formed : Tables → Bool
well_formed t =
    table_ok 1000 datapoint_id datapoint_ok t.datapoints && table_ok 64 item_id item_ok t.items
    && leb (length t.parameters) 255 && text_lists_ok t.texts

-- What refusal 1 asks of the tables, with whether a frame is outstanding beside them. No record names a frame, so
-- that nothing depends on it.
abbrev pub tables_ok : Bool → Tables → Bool
tables_ok outstanding t = well_formed t

-- the entry of an ID: a list with that entry alone, or the empty list where the ID is absent
unfoldable pub found : {A : Type 0} → (A → ℕ) → ℕ → List A → List A
found id_of n [] = []
found id_of n (x ∷ xs) = let rest = found id_of n xs in if eqb (id_of x) n then x ∷ [] else rest

-- the entry of an ID changed by f, all others as they are
unfoldable pub changed_at : {A : Type 0} → (A → ℕ) → ℕ → (A → A) → List A → List A
changed_at id_of n f xs = map (λ x. if eqb (id_of x) n then f x else x) xs

-- how many records have an ID below n: where the record of ID n stands in a table whose IDs rise
unfoldable pub place : {A : Type 0} → (A → ℕ) → ℕ → List A → ℕ
place id_of n [] = 0
place id_of n (x ∷ xs) = if ltb (id_of x) n then suc (place id_of n xs) else place id_of n xs

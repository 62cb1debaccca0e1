-- The tables' part of refusal 1, test by test.
use Prim.Native.Nat.{ℕ}
use mathlib.Core.Path.{◌≡◌, sym}
use mathlib.Core.Bool.{Bool, false, not, and-false}
use mathlib.Core.List.{List}
use lib.ListN.{length}
use lib.Dec.{T, ltb, ltb→lt, nltb→le}
use borrow.Author.Tests.{lt-leb, le-leb}
use Rattle.walks.proofs.Branches.{no_T, yes_T}
use Rattle.baos.specs.declared.datapoint.Datapoint.{Datapoint}
use Rattle.baos.specs.declared.item.Item.{Item}
use Rattle.baos.specs.Datapoint.{datapoint_id, datapoint_ok}
use Rattle.baos.specs.Item.{item_id, item_ok}
use Rattle.baos.specs.Text.{text_lists, text_lists_ok}
use Rattle.baos.specs.Table.{tables_of, table_ok, well_formed, tables_ok}

module _ (ds : List Datapoint) (is : List Item) (ps site defaults : List ℕ) (outstanding : Bool) where
  abbrev a : Bool
  a = table_ok 1000 datapoint_id datapoint_ok ds

  abbrev b : Bool
  b = table_ok 64 item_id item_ok is

  pub ill_datapoints : T (not a) → false ≡ tables_ok outstanding (tables_of ds is ps (text_lists site defaults))
  unfolding well_formed
  ill_datapoints p = sym (simp (no_T a p))

  pub ill_items : T (not b) → false ≡ tables_ok outstanding (tables_of ds is ps (text_lists site defaults))
  unfolding well_formed
  ill_items p = sym (simp (no_T b p, and-false))

  pub ill_parameters : T (ltb 255 (length ps)) → false ≡ tables_ok outstanding (tables_of ds is ps (text_lists site defaults))
  unfolding well_formed
  ill_parameters p = sym (simp (lt-leb (length ps) 255 (ltb→lt 255 (length ps) p), and-false))

  pub formed : T (not (not a)) → T (not (not b)) → T (not (ltb 255 (length ps))) → text_lists_ok (text_lists site defaults) ≡ tables_ok outstanding (tables_of ds is ps (text_lists site defaults))
  unfolding well_formed
  formed p q r = sym (simp (yes_T a p, yes_T b q, le-leb (length ps) 255 (nltb→le 255 (length ps) r)))

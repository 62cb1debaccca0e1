-- What is given for an ID, by the search that the code makes: one law for each exit.
use Rattle.std.proofs.Common.{◌≡◌, ℕ, ◌<◌, ◌≤◌, Bool, true, false, List, [], ◌∷◌, length, get_or, sym, ap, ◌∙◌, arith}
use Rattle.std.proofs.lemmas.List.{get_or_read}
use Rattle.baos.specs.declared.datapoint.Datapoint.{Datapoint}
use Rattle.baos.specs.Datapoint.{datapoint_id, datapoint_ok, zero_datapoint}
use Rattle.baos.specs.Table.{table_ok, found, place}
use Rattle.baos.proofs.EntriesLaws.{found_here, found_nowhere}
use Rattle.calls.proofs.BusLaws.{in_order}
use Rattle.dpt.specs.Reply.{Refused}
use Rattle.dpt.specs.Reading.{reply_of, reading_for}

module _ (id : ℕ) (ds : List Datapoint) where
  abbrev well : Bool
  well = table_ok 1000 datapoint_id datapoint_ok ds

  -- where the ID belongs
  abbrev spot : ℕ
  spot = place datapoint_id id ds

  -- "call 1 as before"
  pub not_well : well ≡ false → Refused 1 ≡ reading_for id ds
  unfolding reading_for
  not_well n = sym (simp n)

  module _ (ok : well ≡ true) where
    by_found : reply_of (found datapoint_id id ds) ≡ reading_for id ds
    unfolding reading_for
    by_found = sym (simp ok)

    module _ (at : ℕ) (e : at ≡ spot) where
      -- "then 4 for an ID that is absent"
      pub nowhere : length ds ≤ at → Refused 4 ≡ reading_for id ds
      unfolding reply_of
      nowhere l = ap reply_of (sym (found_nowhere datapoint_id zero_datapoint id ds (in_order ds ok) (omega (arith, l, e)))) ∙ by_found

      -- by the record that stands there, which may be another ID's
      pub there : (d : Datapoint) → at < length ds → d ≡ get_or ds at d → reply_of (found datapoint_id id (d ∷ [])) ≡ reading_for id ds
      there d l r =
          let here : d ≡ get_or ds spot zero_datapoint = get_or_read ds at d l r zero_datapoint ∙ ap (λ (k : ℕ). get_or ds k zero_datapoint) e in
          ap (λ (x : Datapoint). reply_of (found datapoint_id id (x ∷ []))) here ∙ ap reply_of (sym (found_here datapoint_id zero_datapoint id ds (in_order ds ok) (omega (arith, l, e)))) ∙ by_found

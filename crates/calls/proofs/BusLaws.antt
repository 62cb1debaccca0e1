-- Bus events: what is found, answered and changed by the record that stands where the ID belongs.
use Prim.Native.Nat.{ℕ, ◌≤◌, ◌<◌}
use mathlib.Core.Bool.{Bool, true, false}
use mathlib.Core.List.{List, [], ◌∷◌, map}
use mathlib.Core.Path.{◌≡◌, sym, ◌∙◌, ap, subst}
use lib.Dec.{T, eqb}
use lib.ListN.{length, get_or, set}
use Rattle.std.specs.Prelude.{if◌then◌else◌}
use Rattle.words.proofs.WordLaws.{left, right, T_true, true_T}
use Rattle.baos.specs.declared.datapoint.Datapoint.{Datapoint}
use Rattle.baos.specs.Datapoint.{datapoint_id, datapoint_ok, zero_datapoint}
use Rattle.baos.specs.Lookup.{lookup_of, is_present}
use Rattle.baos.specs.Table.{table_ok, rising, found, changed_at, place}
use Rattle.baos.proofs.TableLaws.{ids_rise}
use Rattle.baos.proofs.PlaceLaws.{ok_few}
use Rattle.baos.proofs.EntriesLaws.{found_here, found_nowhere, changed_here}
use Rattle.baos.specs.declared.bus.BusEvent.{BusEvent}
use Rattle.baos.specs.Bus.{takes, taken, found_takes}
use Rattle.baos.proofs.BusLaws.{takes_event_at, taken_here, one_byte}
use Rattle.calls.specs.Reply.{Refused, Accepted}
use Rattle.calls.specs.Promise.{BusEventTaken}

-- ---- what a search asks of the table
module _ (ds : List Datapoint) (ok : table_ok 1000 datapoint_id datapoint_ok ds ≡ true) where
  pub few : length ds ≤ 1000
  few = ok_few datapoint_id zero_datapoint 1000 datapoint_ok ds (true_T ok)

  pub in_order : rising 0 (map datapoint_id ds) ≡ true
  in_order = T_true (rising 0 (map datapoint_id ds)) (ids_rise datapoint_id 1000 datapoint_ok ds (true_T ok))

-- ---- one search: the answer and the table go by the record at the place
module _ (e : BusEvent) (id : ℕ) (v : List ℕ) (ds : List Datapoint) (ok : table_ok 1000 datapoint_id datapoint_ok ds ≡ true) where
  abbrev pub spot : ℕ
  spot = place datapoint_id id ds

  abbrev pub there : Datapoint
  there = get_or ds spot zero_datapoint

  -- whether the datapoint that was found takes it
  absent : length ds ≤ spot → found_takes e v (found datapoint_id id ds) ≡ false
  unfolding found_takes lookup_of is_present
  absent l = ap (found_takes e v) (found_nowhere datapoint_id zero_datapoint id ds (in_order ds ok) l)

  present : spot < length ds → found_takes e v (found datapoint_id id ds) ≡ takes_event_at e id v there
  present l = ap (found_takes e v) (found_here datapoint_id zero_datapoint id ds (in_order ds ok) l)

  refused_by : found_takes e v (found datapoint_id id ds) ≡ false → BusEventTaken e id v ds (Refused 4) ds
  refused_by h = record { reply = simp h; datapoints = simp h }

  -- "ID absent"
  pub refused_nowhere : length ds ≤ spot → BusEventTaken e id v ds (Refused 4) ds
  refused_nowhere l = refused_by (absent l)

  -- "ID absent, value length not the type's, or unused bits set"
  pub refused_here : spot < length ds → takes_event_at e id v there ≡ false → BusEventTaken e id v ds (Refused 4) ds
  refused_here l h = refused_by (present l ∙ h)

  pub accepted_here : spot < length ds → takes_event_at e id v there ≡ true → BusEventTaken e id v ds (Accepted 0) (set ds spot (taken e v there))
  accepted_here l h = record { reply = simp (present l ∙ h); datapoints = set_here ∙ simp (present l ∙ h) }
    where
      same : eqb there.id id ≡ true
      same = T_true (eqb there.id id) (left (eqb there.id id) (takes e v there) (taken_here e id v there h))

      set_here : set ds spot (taken e v there) ≡ changed_at datapoint_id id (taken e v) ds
      set_here = ap (λ (y : Bool). set ds spot (if y then taken e v there else there)) (sym same) ∙ sym (changed_here datapoint_id zero_datapoint id ds (in_order ds ok) (taken e v) l)

  -- the record at the place takes the event, where it is the one of the ID and takes it
  pub takes_there : takes_event_at e id v there ≡ true → T (takes e v there)
  takes_there h = right (eqb there.id id) (takes e v there) (taken_here e id v there h)

  -- a value of one byte, by that byte
  module _ (one : T (eqb (length v) 1)) where
    pub takes_byte : takes_event_at e id v there ≡ true → T (takes e (get_or v 0 0 ∷ []) there)
    takes_byte h = subst (λ (s : List ℕ). T (takes e s there)) (one_byte v one) (takes_there h)

    pub accepted_byte : spot < length ds → takes_event_at e id v there ≡ true → BusEventTaken e id v ds (Accepted 0) (set ds spot (taken e (get_or v 0 0 ∷ []) there))
    accepted_byte l h = subst (λ (s : List ℕ). BusEventTaken e id v ds (Accepted 0) (set ds spot (taken e s there))) (one_byte v one) (accepted_here l h)

-- Nothing goes beyond its width, whatever happens and whatever lines are told.
use Rattle.std.proofs.Common.{◌≡◌, ℕ, zero, suc, ◌≤◌, Bool, true, false, eqb, ltb, List, [], ◌∷◌, get_or, refl, arith, ltb-true}
use Rattle.std.specs.Prelude.{if◌then◌else◌}
use Rattle.baos.specs.declared.datapoint.Datapoint.{Datapoint}
use Rattle.baos.specs.declared.item.Item.{Item}
use Rattle.calls.specs.declared.event.Event.{Event}
use Rattle.calls.specs.declared.event.Event.TheVariants.{HostByte, IdleMark}
use Rattle.script.specs.Line.{Line}
use Rattle.script.specs.Record.{item_of, datapoint_of}
use Rattle.cases.specs.Bench.{Bench}
use Rattle.cases.specs.Run.{Stand}
use Rattle.cases.specs.Bench.{empty_bench, no_line, with_bits, with_datapoints, with_items, with_parameters, with_site, with_defaults, with_value, Within}
use Rattle.cases.specs.Step.{stepped}
use Rattle.cases.specs.Run.{happened, heard, stand_after}
use Rattle.cases.specs.Lent.{with_item, with_datapoint, filled, built}
use Rattle.cases.specs.Script.{started, marked, numbered, acted}

-- whichever way a test goes
pub either : {A : Type 0} (P : A → Type 0) (t : Bool) {x y : A} → (t ≡ true → P x) → P y → P (if t then x else y)
either P true f p = f refl
either P false f p = p

-- ---- events
pub happened_within : (e : Event) (b : Bench) → Within b → Within (happened e b)
unfolding happened stepped
happened_within e b w = record { datapoints = w.datapoints; items = w.items; parameters = w.parameters; site = w.site; defaults = w.defaults; value = w.value }

heard_within : (xs : List ℕ) (b : Bench) → Within b → Within (heard xs b)
unfolding heard
heard_within [] b w = w
heard_within (x ∷ xs) b w = heard_within xs (happened (HostByte x) b) (happened_within (HostByte x) b w)

-- ---- tables
pub empty_within : Within empty_bench
unfolding empty_bench no_line
empty_within = record { datapoints = omega arith; items = omega arith; parameters = omega arith; site = omega arith; defaults = omega arith; value = omega arith }

item_within : (i : Item) (b : Bench) → Within b → Within (with_item i b)
unfolding with_item with_items
item_within i b w =
    either Within (ltb b.itemcount 4)
    (λ e. record { datapoints = w.datapoints; items = omega (arith, ltb-true b.itemcount 4 e); parameters = w.parameters; site = w.site; defaults = w.defaults; value = w.value })
    w

datapoint_within : (d : Datapoint) (b : Bench) → Within b → Within (with_datapoint d b)
unfolding with_datapoint with_datapoints
datapoint_within d b w =
    either Within (ltb b.datapointcount 50)
    (λ e. record { datapoints = omega (arith, ltb-true b.datapointcount 50 e); items = w.items; parameters = w.parameters; site = w.site; defaults = w.defaults; value = w.value })
    w

filled_within : (a : List ℕ) (n : ℕ) (b : Bench) → Within b → Within (filled a n b)
unfolding filled
filled_within a zero b w = w
filled_within a (suc n) b w = datapoint_within (datapoint_of a n) (filled a n b) (filled_within a n b w)

-- ---- lines
abbrev Stands : Stand → Type 0
Stands s = Within s.bench

module _ (l : Line) (h : l.size ≤ 264) where
  pub built_within : (b : Bench) → Within b → Within (built l b)
  unfolding built with_parameters with_site with_defaults
  built_within b w =
      either Within (eqb l.letter 0x65) (λ _. empty_within)
      (either Within (eqb l.letter 0x69) (λ _. item_within (item_of l.bytes) b w)
      (either Within (eqb l.letter 0x64) (λ _. filled_within l.bytes (get_or l.bytes 0 0) b w)
      (either Within (eqb l.letter 0x70) (λ _. record { datapoints = w.datapoints; items = w.items; parameters = h; site = w.site; defaults = w.defaults; value = w.value })
      (either Within (eqb l.letter 0x76) (λ _. record { datapoints = w.datapoints; items = w.items; parameters = w.parameters; site = h; defaults = w.defaults; value = w.value })
      (either Within (eqb l.letter 0x77) (λ _. record { datapoints = w.datapoints; items = w.items; parameters = w.parameters; site = w.site; defaults = h; value = w.value }) w)))))

  pub acted_within : (b : Bench) (s : Stand) → Within b → Within s.bench → Within (acted l b s).bench
  unfolding acted started with_bits stand_after marked with_value numbered
  acted_within b s w v =
      either Stands (eqb l.letter 0x73) (λ _. record { datapoints = w.datapoints; items = w.items; parameters = w.parameters; site = w.site; defaults = w.defaults; value = w.value })
      (either Stands (eqb l.letter 0x68) (λ _. heard_within _ s.bench v)
      (either Stands (eqb l.letter 0x6D) (λ _. happened_within IdleMark s.bench v)
      (either Stands (eqb l.letter 0x62) (λ _. record { datapoints = v.datapoints; items = v.items; parameters = v.parameters; site = v.site; defaults = v.defaults; value = h })
      (either Stands (eqb l.letter 0x6E) (λ _. happened_within _ s.bench v) v))))

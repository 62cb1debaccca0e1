-- A call on the tables of a bench that the program holds is a step of the bench that the definitions see.
use Rattle.std.proofs.Common.{◌≡◌, ℕ, ◌-◌, List, ◌++◌, length, drop, [], replicate, sym, ap, ◌∙◌, arith, append-nil, drop_of_length-le, take_all}
use Rattle.std.specs.List.{refill}
use Rattle.ft12.specs.declared.record.Link.{Link}
use Rattle.baos.specs.declared.datapoint.Datapoint.{Datapoint}
use Rattle.baos.specs.declared.item.Item.{Item}
use Rattle.baos.specs.Table.{Tables, tables_of}
use Rattle.baos.specs.Text.{TextLists, text_lists}
use Rattle.calls.specs.declared.event.Event.{Event}
use Rattle.calls.specs.Reply.{Reply}
use Rattle.calls.specs.Call.{Called, call}
use Rattle.calls.specs.Promise.{Leaves}
use Rattle.calls.proofs.CallLaws.{reply_told}
use Rattle.script.specs.Line.{listed}
use Rattle.script.specs.View.{in_places, line_of}
use Rattle.script.proofs.PlaceLaws.{take_places, drop_places}
use Rattle.cases.specs.declared.bench.Bench.{Bench as HeldBench}
use Rattle.cases.specs.Bench.{no_datapoint, no_item}
use Rattle.cases.specs.Run.{happened}
use Rattle.cases.specs.Step.{lists_of, tables_in, called, stepped}
use Rattle.cases.specs.View.{bench_of}

-- a table that is now ys, of as many records
joined : {A : Type 0} (n : ℕ) (blank : A) (xs ys zs : List A) → ys ≡ zs → length ys ≡ length xs → in_places n blank ys ≡ zs ++ drop (length xs) (in_places n blank xs)
joined n blank xs ys zs e f =
    let r : ys ++ replicate (n - length ys) blank ≡ zs ++ replicate (n - length xs) blank = λ i. e i ++ replicate (n - f i) blank in
    r ∙ ap (λ q. zs ++ q) (sym (drop_places n blank xs))

pub refilled : {A : Type 0} (xs ws : List A) → length ws ≡ length xs → refill (length xs) xs ws ≡ ws
refilled xs ws e = let d : drop (length ws) xs ≡ [] = drop_of_length-le xs (omega (arith, e)) in rw (d, append-nil) (take_all (length xs) ws (omega (arith, e)))

module _ (b : HeldBench) (e : Event) where
  abbrev ts : TextLists
  ts = text_lists (listed (line_of b.site)) (listed (line_of b.defaults))

  abbrev left : Called
  left = call e (listed (line_of b.value)) (tables_of b.datapoints.items b.items.items b.parameters.items ts) b.link b.out

  abbrev right : Called
  right = called (bench_of b) (lists_of (bench_of b)) e

  same : left ≡ right
  unfolding called tables_in lists_of
  same =
      sym (λ j. call e (listed (line_of b.value)) (tables_of (take_places 50 no_datapoint b.datapoints.items j) (take_places 4 no_item b.items.items j) (take_places 264 0 b.parameters.items j) ts) b.link b.out)

  pub steps : (r : Reply) (ds : List Datapoint) (is : List Item) (ps : List ℕ) (k : Link) (o : List ℕ) → Leaves left r (tables_of ds is ps ts) k o
      → length ds ≡ length b.datapoints.items → length is ≡ length b.items.items → length ps ≡ length b.parameters.items
      → record { link = k; datapoints = in_places 50 no_datapoint ds; datapointcount = length ds; items = in_places 4 no_item is; itemcount = length is; parameters = in_places 264 0 ps; parametercount = length ps; site = line_of b.site; defaults = line_of b.defaults; value = line_of b.value; out = o; reply = r } ≡ happened e (bench_of b)
  unfolding happened stepped
  steps r ds is ps k o l nd ni np =
      let t : tables_of ds is ps ts ≡ right.tables = l.tables ∙ ap (λ (z : Called). z.tables) same in
      let ed = joined 50 no_datapoint b.datapoints.items ds right.tables.datapoints (ap (λ (z : Tables). z.datapoints) t) nd in
      let ei = joined 4 no_item b.items.items is right.tables.items (ap (λ (z : Tables). z.items) t) ni in
      let ep = joined 264 0 b.parameters.items ps right.tables.parameters (ap (λ (z : Tables). z.parameters) t) np in
      let ek : k ≡ right.link = l.link ∙ ap (λ (z : Called). z.link) same in
      let eo : o ≡ right.output = l.output ∙ ap (λ (z : Called). z.output) same in
      let er : r ≡ right.reply = reply_told r left.reply l.reply ∙ ap (λ (z : Called). z.reply) same in
      λ j. record { link = ek j; datapoints = ed j; datapointcount = nd j; items = ei j; itemcount = ni j; parameters = ep j; parametercount = np j; site = line_of b.site; defaults = line_of b.defaults; value = line_of b.value; out = eo j; reply = er j }

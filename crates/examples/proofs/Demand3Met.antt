-- Demand 3 says something: its premises hold at example 1, for an exchange with damaged deliveries before, between and after two sound ones.
use Prim.Native.Nat.{ℕ}
use mathlib.Core.Path.{◌≡◌, refl, ◌∙◌}
use mathlib.Core.Bool.{true, not}
use mathlib.Core.List.{List, [], ◌∷◌}
use native.Mathlib.Omega.{arith}
use lib.ListN.{replicate}
use lib.Dec.{T, eqb}
use Rattle.ft12.specs.declared.record.Link.{Link}
use Rattle.ft12.specs.Frame.{data_frame}
use Rattle.ft12.specs.Record.{link_of}
use Rattle.ft12.specs.Delivery.{Delivery, sound, changed, lost, is_sound, arrives}
use Rattle.ft12.proofs.RecordLaws.{line_in_range}
use Rattle.words.specs.Words.{is_yes}
use Rattle.baos.specs.Table.{Tables, well_formed}
use Rattle.baos.specs.Service.{carried_out}
use Rattle.examples.specs.Example.{line_at, item1, answer1, datapoint, datapoint5}
use Rattle.demands.specs.Exchange.{Lent, calls, then_idle, delivery, exchange, Start, Request, request_frame, EachPossible, some_sound, answer_frame, draws, Once}
use Rattle.examples.proofs.Opened.{opened}
use Rattle.examples.proofs.ComputedExamples.{same_datapoint, same_item, tables_same, tables_eq}
use Rattle.demands.proofs.Demand3.{demand_3}

unfoldable pub lent : ℕ → ℕ → Lent
lent i n = record { value = []; output = replicate 262 0 }

unfoldable pub link : Link
link = link_of (line_at true true [])

unfoldable pub request : List ℕ
request = 0xF0 ∷ 0x01 ∷ 0x00 ∷ 0x01 ∷ 0x00 ∷ 0x01 ∷ []

-- the first byte turned into E5 while nothing is outstanding and while the answer is; a byte lost; another changed
unfoldable pub deliveries : List Delivery
deliveries = changed 0 0xE5 ∷ sound ∷ lost 3 ∷ sound ∷ changed 7 0x55 ∷ changed 0 0xE5 ∷ []

module _ (t : Tables) (w : T (well_formed t)) where
  at_start_lem : Start lent t link
  unfolding opened lent link line_at
  at_start_lem =
      record {
        tables = w;
        link = line_in_range (line_at true true []) tt;
        output = λ i n. omega arith;
        received = refl;
        dropping = refl;
        held = refl;
      }

asked : Request request
unfolding opened request
asked = record { first = refl; short = omega arith; bytes = tt }

possible : EachPossible (request_frame link request) deliveries
unfolding opened link line_at request request_frame deliveries
possible = ((omega arith, omega arith, (λ e. omega (arith, e))), (tt, (omega arith, (tt, ((omega arith, omega arith, (λ e. omega (arith, e))), ((omega arith, omega arith, (λ e. omega (arith, e))), tt))))))

some_sound_lem : T (some_sound deliveries)
unfolding some_sound is_sound deliveries
some_sound_lem = tt

met : Once lent request deliveries item1 link
met = demand_3 lent request deliveries item1 link (at_start_lem item1 (unfold opened item1 in tt)) asked possible some_sound_lem

-- what the theorem then says of them
pub met_sent : (exchange lent (request_frame link request) deliveries item1 link).sent ≡ [] ∷ (0xE5 ∷ answer1) ∷ [] ∷ (0xE5 ∷ []) ∷ [] ∷ [] ∷ []
met_sent = met.drawn ∙ says
  where
    says : draws (answer_frame item1 link request) deliveries ≡ [] ∷ (0xE5 ∷ answer1) ∷ [] ∷ (0xE5 ∷ []) ∷ [] ∷ [] ∷ []
    says = unfold opened answer_frame link line_at request item1 answer1 draws is_sound deliveries in refl

-- and the exception is met too: the answer is outstanding after one sound delivery, and no more after the last of these, whose first byte is E5
pub met_acknowledged : T (eqb (delivery (lent 0) (request_frame link request) sound item1 link).link.held 22) × T (eqb (exchange lent (request_frame link request) deliveries item1 link).link.held 0)
unfolding opened lent link line_at request item1 request_frame deliveries arrives then_idle calls delivery exchange
met_acknowledged = (tt, tt)

-- so the send bit is not what one sound delivery leaves: the demand names the expected bit alone
pub met_send : T (is_yes (delivery (lent 0) (request_frame link request) sound item1 link).link.send) × T (not (is_yes (exchange lent (request_frame link request) deliveries item1 link).link.send))
unfolding opened lent link line_at request item1 request_frame deliveries arrives then_idle calls delivery exchange
met_send = (tt, tt)

-- ---- the order's reason: "The filter asks for updated readings only, and a reading is handed out once."
-- datapoint 5 is valid and updated from the bus, value 1; its updated values are asked for, once with a byte lost and twice sound
unfoldable pub reading : Tables
reading = datapoint5 0x18 1

unfoldable pub for_updated : List ℕ
for_updated = 0xF0 ∷ 0x05 ∷ 0x00 ∷ 0x05 ∷ 0x00 ∷ 0x01 ∷ 0x02 ∷ []

unfoldable pub retries : List Delivery
retries = lost 3 ∷ sound ∷ sound ∷ []

reading_met : Once lent for_updated retries reading link
reading_met =
    demand_3 lent for_updated retries reading link (at_start_lem reading (unfold opened reading datapoint5 datapoint in tt))
    (unfold opened for_updated in record { first = refl; short = omega arith; bytes = tt })
    (unfold opened link line_at for_updated request_frame retries in (omega arith, (tt, (tt, tt))))
    (unfold some_sound is_sound retries in tt)

-- it is sent once, with its state byte as it was, 18 hex; and is then no longer updated, state 10 hex
pub reading_sent : (exchange lent (request_frame link for_updated) retries reading link).sent
    ≡ [] ∷ (0xE5 ∷ data_frame 0xF3 (0xF0 ∷ 0x85 ∷ 0x00 ∷ 0x05 ∷ 0x00 ∷ 0x01 ∷ 0x00 ∷ 0x05 ∷ 0x18 ∷ 0x01 ∷ 0x01 ∷ [])) ∷ (0xE5 ∷ []) ∷ []
reading_sent = reading_met.drawn ∙ (unfold opened answer_frame link line_at for_updated reading datapoint5 datapoint draws is_sound retries in refl)

pub reading_left : (exchange lent (request_frame link for_updated) retries reading link).tables ≡ datapoint5 0x10 1
reading_left = reading_met.tables ∙ reading_met.carried ∙ left
  where
    left : (carried_out reading for_updated).after ≡ datapoint5 0x10 1
    left = tables_eq _ _ (unfold opened for_updated reading datapoint5 datapoint same_datapoint same_item tables_same in tt)

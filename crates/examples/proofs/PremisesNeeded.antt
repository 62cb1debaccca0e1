-- Each premise of demand 3 is needed: computed runs that meet the others.
use Prim.Native.Nat.{ℕ, ◌≤◌}
use mathlib.Core.Path.{◌≡◌, refl, sym, ◌∙◌, ap, subst}
use mathlib.Core.Bool.{Bool, true, false, not, ◌&&◌}
use mathlib.Core.List.{List, [], ◌∷◌, ◌++◌}
use native.Mathlib.Omega.{arith}
use lib.ListN.{length, get_or, replicate}
use lib.Dec.{T, eqb, eqb→eq}
use Rattle.words.specs.Words.{is_empty, same}
use Rattle.ft12.specs.declared.record.Link.{Link}
use Rattle.ft12.specs.Record.{link_of, in_range}
use Rattle.ft12.specs.Delivery.{sound, changed, lost, is_sound, arrives}
use Rattle.words.proofs.WordLaws.{left, right, same→eq}
use Rattle.ft12.proofs.RecordLaws.{line_in_range}
use Rattle.baos.specs.Datapoint.{zero_datapoint}
use Rattle.baos.specs.Table.{Tables, datapoints_only, well_formed}
use Rattle.demands.specs.Run.{Ran}
use Rattle.examples.specs.Example.{line_at, item1, ask1, answer1, datapoint, datapoint5, set5, answer3}
use Rattle.demands.specs.Exchange.{Lent, calls, then_idle, delivery, exchange, is_accepted, all_accepted, none_refused, Start, Request, request_frame, EachPossible, some_sound, answer_frame, draws}
use Rattle.examples.specs.Needed.{Demand3For, StartAnyTables, StartAnyLink, StartAnyRoom, StartAnywhere, StartHolding, AnyRequest, AtLeastOneSound, AnyNumberSound, AnyDeliveries, resting_link, roomy, unmarked, marked, two_changed, status_entries, spelt, spelling, Needed}
use Rattle.examples.proofs.Opened.{opened}
use Rattle.examples.proofs.ComputedExamples.{same_datapoint, same_item, tables_same, tables_eq}

-- ---- the idle mark, two bytes changed, and a frame spelt
with_mark_lem : (calls roomy marked item1 resting_link).sent ≡ 0xE5 ∷ answer1
with_mark_lem = same→eq _ _ (unfold opened roomy marked item1 resting_link line_at answer1 ask1 calls arrives then_idle in tt)

without_mark : (calls roomy unmarked item1 resting_link).sent ≡ []
without_mark = same→eq _ _ (unfold opened roomy unmarked item1 resting_link line_at answer1 ask1 calls arrives then_idle in tt)

two_sent : (calls roomy two_changed (datapoint5 0x00 0) resting_link).sent ≡ (0xE5 ∷ answer3) ++ 0xE5 ∷ []
two_sent = same→eq _ _ (unfold opened roomy two_changed datapoint datapoint5 set5 resting_link line_at answer3 calls arrives then_idle in tt)

two_tables : (calls roomy two_changed (datapoint5 0x00 0) resting_link).tables ≡ datapoint5 0x13 0
two_tables = tables_eq _ _ (unfold opened roomy two_changed datapoint datapoint5 set5 resting_link line_at calls arrives then_idle same_datapoint same_item tables_same in tt)

-- run once for both
abbrev spelt_run : Ran
spelt_run = delivery roomy (request_frame resting_link spelling) (lost 0) (datapoint5 0x00 0) resting_link

as_spelt : Ran → Bool
as_spelt r = same r.sent (0xE5 ∷ answer3) && tables_same r.tables (datapoint5 0x03 0)

spelt_tested : T (as_spelt spelt_run)
unfolding opened roomy spelling spelt status_entries datapoint datapoint5 resting_link line_at answer3 request_frame arrives then_idle calls delivery same_datapoint same_item tables_same as_spelt
spelt_tested = tt

spelt_sent : spelt_run.sent ≡ 0xE5 ∷ answer3
unfolding as_spelt
spelt_sent = same→eq _ _ (left (same spelt_run.sent (0xE5 ∷ answer3)) (tables_same spelt_run.tables (datapoint5 0x03 0)) spelt_tested)

spelt_tables : spelt_run.tables ≡ datapoint5 0x03 0
unfolding as_spelt
spelt_tables = tables_eq _ _ (right (same spelt_run.sent (0xE5 ∷ answer3)) (tables_same spelt_run.tables (datapoint5 0x03 0)) spelt_tested)

-- ---- one premise left out: what the theorem would say of the first delivery, and what the run says
draws_first : List (List ℕ) → Bool
draws_first s = not (is_empty (get_or s 0 []))

clash : (s r : List (List ℕ)) → T (draws_first s) → T (not (draws_first r)) → s ≡ r → ⊥
clash s r p q e = T_not (draws_first r) (subst (λ (x : List (List ℕ)). T (draws_first x)) e p) q
  where
    T_not : (b : Bool) → T b → T (not b) → ⊥
    T_not true p q = q
    T_not false p q = p

abbrev lent : ℕ → ℕ → Lent
lent i n = roomy n

room : (i n : ℕ) → 262 ≤ length (lent i n).output
unfolding roomy
room i n = omega arith

-- example 1's request
ask : List ℕ
ask = 0xF0 ∷ 0x01 ∷ 0x00 ∷ 0x01 ∷ 0x00 ∷ 0x01 ∷ []

asked : Request ask
unfolding opened ask
asked = record { first = refl; short = omega arith; bytes = tt }

one_sound : T (some_sound (sound ∷ []))
unfolding some_sound is_sound
one_sound = tt

resting_range : T (in_range resting_link)
resting_range = unfold resting_link in line_in_range _ (unfold opened line_at in tt)

item1_ok : T (well_formed item1)
unfolding opened item1
item1_ok = tt

-- a datapoint of type code 15
bad_table : Tables
bad_table = datapoints_only (record { id = 1; typecode = 15; flags = 0; dpt = 0; state = 0; value = replicate 14 0; mark = 0 } ∷ [])

well_formed_lem : Demand3For StartAnyTables Request EachPossible AtLeastOneSound → ⊥
well_formed_lem h = refused (h lent ask (sound ∷ []) bad_table resting_link start asked (tt, tt) one_sound).accepted
  where
    start : StartAnyTables lent bad_table resting_link
    start = record { link = resting_range; output = room; received = unfold opened resting_link line_at in refl; dropping = unfold opened resting_link line_at in refl; held = unfold opened resting_link line_at in refl }

    refused : T (none_refused lent (request_frame resting_link ask) (sound ∷ []) bad_table resting_link) → ⊥
    refused = unfold opened roomy resting_link line_at ask bad_table request_frame arrives then_idle is_accepted all_accepted none_refused in λ t. t

-- nothing outstanding, and yet sent again once
bad_link : Link
bad_link = link_of (record { gathered = []; dropping = false; expected = true; send = true; outstanding = []; resends = 1 })

in_range_lem : Demand3For StartAnyLink Request EachPossible AtLeastOneSound → ⊥
in_range_lem h = refused (h lent ask (sound ∷ []) item1 bad_link start asked (tt, tt) one_sound).accepted
  where
    start : StartAnyLink lent item1 bad_link
    start = record { tables = item1_ok; output = room; received = unfold opened bad_link in refl; dropping = unfold opened bad_link in refl; held = unfold opened bad_link in refl }

    refused : T (none_refused lent (request_frame bad_link ask) (sound ∷ []) item1 bad_link) → ⊥
    refused = unfold opened roomy bad_link ask item1 request_frame arrives then_idle is_accepted all_accepted none_refused in λ t. t

-- no output room
cramped : ℕ → ℕ → Lent
cramped i n = record { value = []; output = [] }

roomy_enough : Demand3For StartAnyRoom Request EachPossible AtLeastOneSound → ⊥
roomy_enough h = refused (h cramped ask (sound ∷ []) item1 resting_link start asked (tt, tt) one_sound).accepted
  where
    start : StartAnyRoom cramped item1 resting_link
    start = record { tables = item1_ok; link = resting_range; received = unfold opened resting_link line_at in refl; dropping = unfold opened resting_link line_at in refl; held = unfold opened resting_link line_at in refl }

    refused : T (none_refused cramped (request_frame resting_link ask) (sound ∷ []) item1 resting_link) → ⊥
    refused = unfold opened cramped resting_link line_at ask item1 request_frame arrives then_idle is_accepted all_accepted none_refused in λ t. t

-- 68 was gathered before the request comes
mid_frame : Link
mid_frame = link_of (record { gathered = 0x68 ∷ []; dropping = false; expected = true; send = true; outstanding = []; resends = 0 })

frame_start : Demand3For StartAnywhere Request EachPossible AtLeastOneSound → ⊥
frame_start h =
    let once = h lent ask (sound ∷ []) item1 mid_frame start asked (tt, tt) one_sound in
    clash _ _ expects says (sym once.drawn)
  where
    start : StartAnywhere lent item1 mid_frame
    start = record { tables = unfold opened item1 in tt; link = unfold mid_frame in line_in_range _ (unfold opened in tt); output = room; held = unfold opened mid_frame in refl }

    expects : T (draws_first (draws (answer_frame item1 mid_frame ask) (sound ∷ [])))
    expects = unfold draws_first draws is_sound in tt

    says : T (not (draws_first (exchange lent (request_frame mid_frame ask) (sound ∷ []) item1 mid_frame).sent))
    says = unfold opened draws_first roomy mid_frame ask item1 request_frame arrives then_idle calls delivery exchange in tt

-- example 1's answer is outstanding
holding : Link
holding = link_of (line_at true true answer1)

nothing_outstanding : Demand3For StartHolding Request EachPossible AtLeastOneSound → ⊥
nothing_outstanding h =
    let once = h lent ask (sound ∷ []) item1 holding start asked (tt, tt) one_sound in
    clash _ _ expects says (sym once.drawn)
  where
    start : StartHolding lent item1 holding
    start =
        record {
          tables = unfold opened item1 in tt;
          link = unfold holding in line_in_range _ (unfold opened line_at answer1 in tt);
          output = room;
          received = unfold opened line_at holding in refl;
          dropping = unfold opened line_at holding in refl;
        }

    expects : T (draws_first (draws (answer_frame item1 holding ask) (sound ∷ [])))
    expects = unfold draws_first draws is_sound in tt

    says : T (not (draws_first (exchange lent (request_frame holding ask) (sound ∷ []) item1 holding).sent))
    says = unfold opened draws_first roomy holding line_at answer1 ask item1 request_frame arrives then_idle calls delivery exchange in tt

-- from a start that demand 3 asks for
module _ (t : Tables) (w : T (well_formed t)) where
  resting : Start lent t resting_link
  resting =
      record {
        tables = w;
        link = resting_range;
        output = room;
        received = unfold opened resting_link line_at in refl;
        dropping = unfold opened resting_link line_at in refl;
        held = unfold opened resting_link line_at in refl;
      }

datapoint5_ok : T (well_formed (datapoint5 0x00 0))
unfolding opened datapoint5 datapoint
datapoint5_ok = tt

-- a byte that is changed into itself
one_byte : Demand3For Start Request AnyDeliveries AtLeastOneSound → ⊥
one_byte h =
    let once = h lent ask (changed 0 0x68 ∷ sound ∷ []) item1 resting_link (resting item1 item1_ok) asked tt (unfold some_sound is_sound in tt) in
    clash _ _ says expects once.drawn
  where
    expects : T (not (draws_first (draws (answer_frame item1 resting_link ask) (changed 0 0x68 ∷ sound ∷ []))))
    expects = unfold draws_first draws is_sound in tt

    says : T (draws_first (exchange lent (request_frame resting_link ask) (changed 0 0x68 ∷ sound ∷ []) item1 resting_link).sent)
    says = unfold opened draws_first roomy resting_link line_at ask item1 request_frame arrives then_idle calls delivery exchange in tt

-- no delivery at all
some_sound_lem : Demand3For Start Request EachPossible AnyNumberSound → ⊥
some_sound_lem h =
    let once = h lent (set5 1) [] (datapoint5 0x00 0) resting_link (resting (datapoint5 0x00 0) datapoint5_ok) sets tt tt in
    unset _ _ before after once.tables
  where
    sets : Request (set5 1)
    sets = unfold opened set5 in record { first = refl; short = omega arith; bytes = tt }

    state : Tables → ℕ
    state t = (get_or t.datapoints 0 zero_datapoint).state

    before : T (eqb (state (exchange lent (request_frame resting_link (set5 1)) [] (datapoint5 0x00 0) resting_link).tables) 0x00)
    before = unfold exchange datapoint5 datapoint in tt

    after : T (eqb (state (delivery (lent 0) (request_frame resting_link (set5 1)) sound (datapoint5 0x00 0) resting_link).tables) 0x13)
    after = unfold opened roomy resting_link line_at set5 datapoint5 datapoint request_frame arrives then_idle calls delivery in tt

    unset : (t t' : Tables) → T (eqb (state t) 0x00) → T (eqb (state t') 0x13) → t ≡ t' → ⊥
    unset t t' p q e =
        let z : ◌≡◌ {A = ℕ} 0x00 0x13 = sym (eqb→eq (state t) 0x00 p) ∙ ap state e ∙ eqb→eq (state t') 0x13 q in
        omega (arith, z)

-- the set that it spells is carried out
first_byte : Demand3For Start AnyRequest EachPossible AtLeastOneSound → ⊥
first_byte h =
    let once = h lent spelling (lost 0 ∷ sound ∷ []) (datapoint5 0x00 0) resting_link (resting (datapoint5 0x00 0) datapoint5_ok) any possible (unfold some_sound is_sound in tt) in
    clash _ _ says expects once.drawn
  where
    any : AnyRequest spelling
    any = unfold opened spelling spelt status_entries in record { short = omega arith; bytes = tt }

    possible : EachPossible (request_frame resting_link spelling) (lost 0 ∷ sound ∷ [])
    possible = (unfold opened request_frame in omega arith, (tt, tt))

    expects : T (not (draws_first (draws (answer_frame (datapoint5 0x00 0) resting_link spelling) (lost 0 ∷ sound ∷ []))))
    expects = unfold draws_first draws is_sound in tt

    says : T (draws_first (exchange lent (request_frame resting_link spelling) (lost 0 ∷ sound ∷ []) (datapoint5 0x00 0) resting_link).sent)
    says = unfold draws_first exchange in rw spelt_sent tt

pub needed : Needed
needed =
    record {
      as_stated = λ d. d;
      tables_well_formed = well_formed_lem;
      link_in_range = in_range_lem;
      roomy_enough = roomy_enough;
      frame_start = frame_start;
      nothing_outstanding = nothing_outstanding;
      first_byte = first_byte;
      one_byte = one_byte;
      one_sound_needed = some_sound_lem;
      with_idle_mark = with_mark_lem;
      without_mark = without_mark;
      two_sent = two_sent;
      two_tables = two_tables;
      spelt_sent = spelt_sent;
      spelt_tables = spelt_tables;
    }

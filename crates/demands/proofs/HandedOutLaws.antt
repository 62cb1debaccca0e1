-- A reading is handed out once. Bit 3 of a datapoint is set by a bus value for it alone; a message that shows it set is built of a record that has it set and loses it.
use Prim.Native.Nat.{ℕ, ◌+◌, ◌/◌, ◌%◌, ◌≤◌, ◌<◌}
use mathlib.Core.Path.{◌≡◌, refl, sym, ◌∙◌, ap, subst}
use mathlib.Core.Logic.{◌⊎◌, inl, inr, ◌≢◌}
use mathlib.Core.Bool.{Bool, true, false, not, ◌&&◌, ◌||◌}
use mathlib.Core.List.{List, [], ◌∷◌, ◌++◌, map, flatten}
use native.Mathlib.Omega.{arith}
use native.Mathlib.Decide.{ℕ_discrete}
use lib.ListN.{length, get_or, drop}
use lib.Seq.{drop-append-add, drop-append_seam}
use lib.Dec.{T, ltb, eqb, ltb→lt}
use borrow.Author.Tests.{ne_eqb, eqb-true}
use Rattle.std.specs.Prelude.{if◌then◌else◌}
use Rattle.words.specs.Words.{of_two_bytes, keep, every, is_empty}
use Rattle.words.proofs.WordLaws.{left, right, both, true_T, T_true, every_map, every-keep, padded_length}
use Rattle.ft12.specs.declared.record.Link.{Link}
use Rattle.ft12.specs.declared.rules.Heard.{Heard}
use Rattle.ft12.specs.declared.rules.Heard.TheVariants.{Gathered, Dropped, Ignored, Acknowledged, Reset, Repeat, Request}
use Rattle.ft12.specs.Frame.{message_of}
use Rattle.ft12.specs.Record.{Line, line_of}
use Rattle.ft12.specs.Rules.{Up, nothing, acknowledged, dropped, reset, message, heard_at, on_heard, on_host_byte, on_idle_mark}
use Rattle.baos.specs.declared.datapoint.Datapoint.{Datapoint}
use Rattle.baos.specs.Datapoint.{datapoint_id, datapoint_ok, size_of, value_of, is_updated, with_valid, without_updated, with_request, with_status, with_state, with_value, with_mark, handed_out, bus_value, outcome, commanded}
use Rattle.baos.specs.Table.{Tables, rising, changed_at, well_formed}
use Rattle.baos.specs.Message.{sub_service, start_of, number_of, filter_of, coded, Finding, fine, bad, Served, answer_of, after_of, served}
use Rattle.baos.specs.Get.{AnswerEntry, listing, get_finding, getting, get_server_item, get_datapoint_description, get_description_string, value_entry, asked, handing_out, get_datapoint_value, get_parameter_byte}
use Rattle.baos.specs.Set.{SetEntry, set_finding, applied, setting, set_server_item, set_datapoint, set_datapoint_value, set_parameter_finding, set_parameter_byte}
use Rattle.baos.specs.Service.{unanswered, carried_out}
use Rattle.baos.specs.Get.{room_for_entries}
use Rattle.baos.specs.Indication.{Choice, room_after, choices, reported, after_report, indication_of, indication}
use Rattle.baos.proofs.DatapointLaws.{parts, bit, bits_of_valid, bits_without_updated, bits_with_request, bits_with_status}
use Rattle.baos.proofs.TableLaws.{ids_rise, entries_ok}
use Rattle.baos.proofs.KeepLaws.{parts as tables-parts}
use Rattle.baos.proofs.DispatchLaws.{by_service, by_message}
use Rattle.calls.specs.declared.event.Event.{Event}
use Rattle.calls.specs.declared.event.Event.TheVariants.{HostByte, IdleMark, AckWaitOver, Poll, BusValue, TransmissionOutcome}
use Rattle.baos.specs.Bus.{status_of}
use Rattle.calls.specs.Event.{at_datapoint}
use Rattle.calls.specs.Call.{Done, saying, handed_up, on_moved, on_poll, happens, refusal, Called, refused, accepted, call}
use Rattle.calls.proofs.CallLaws.{not_refused, refused_leaves}
use Rattle.calls.proofs.CallJoins.{waited}
use Rattle.baos.proofs.BusLaws.{status_fits}
use Rattle.walks.proofs.Branches.{no_T}
use Rattle.demands.specs.HostHears.{Happening, all_accepted}
use Rattle.demands.specs.Entries.{message_up}
use Rattle.demands.specs.HandedOut.{shown_in, values_in, shows_updated, builds_at, builds, hands_out, times_handed_out, is_value_for, no_value_for, HandedOutOnce}

-- ---- records: some have this ID and bit 3 set
unfoldable is_fresh : ℕ → Datapoint → Bool
is_fresh id d = eqb d.id id && is_updated d.state

unfoldable fresh : ℕ → List Datapoint → Bool
fresh id [] = false
fresh id (d ∷ ds) = is_fresh id d || fresh id ds

or_false : (a b : Bool) → a ≡ false → b ≡ false → (a || b) ≡ false
or_false a b p q = rw (p, q) refl

none_left : (a b : Bool) → (a || b) ≡ false → a ≡ false
none_left false b e = refl
none_left true b e = e

none_right : (a b : Bool) → (a || b) ≡ false → b ≡ false
none_right false b e = e
none_right true b e = absurd (true_T {b = false} (sym e))

not_fresh : (id : ℕ) (d : Datapoint) → is_updated d.state ≡ false → is_fresh id d ≡ false
unfolding is_fresh
not_fresh id d e = go (eqb d.id id)
  where
    go : (u : Bool) → (u && is_updated d.state) ≡ false
    go true = e
    go false = refl

other_fresh : (id : ℕ) (d : Datapoint) → eqb d.id id ≡ false → is_fresh id d ≡ false
unfolding is_fresh
other_fresh id d e = rw e refl

-- ---- what a message shows of records whose entries it has
shown_fresh : (id : ℕ) (ds : List Datapoint) → T (every datapoint_ok ds)
    → shows_updated id (shown_in (length (map value_entry ds)) (flatten (map (λ (e : AnswerEntry). e.bytes) (map value_entry ds)))) ≡ fresh id ds
unfolding shown_in shows_updated fresh is_fresh flatten value_entry
shown_fresh id [] ok = refl
shown_fresh id (d ∷ ds) ok =
    let rest : List ℕ = flatten (map (λ (e : AnswerEntry). e.bytes) (map value_entry ds)) in
    let size : length (value_of d) ≡ size_of d.typecode = unfold value_of in padded_length 14 (size_of d.typecode) d.value (parts d (left (datapoint_ok d) (every datapoint_ok ds) ok)).unused in
    let head : List ℕ = d.id / 256 ∷ d.id % 256 ∷ d.state ∷ size_of d.typecode ∷ [] in
    let behind : drop (4 + size_of d.typecode) (head ++ (value_of d ++ rest)) ≡ rest =
    drop-append-add head (value_of d ++ rest) (size_of d.typecode) ∙ ap (λ (k : ℕ). drop k (value_of d ++ rest)) (sym size) ∙ drop-append_seam (value_of d) rest in
    let number : of_two_bytes (d.id / 256) (d.id % 256) ≡ d.id = omega arith in
    rw (number, behind) (ap (λ (x : Bool). (eqb d.id id && is_updated d.state) || x) (shown_fresh id ds (right (datapoint_ok d) (every datapoint_ok ds) ok)))

-- ---- records that are carried or not: those carried lose bit 3
module _ (id : ℕ) (g : Datapoint → Datapoint) (same_id : (d : Datapoint) → (g d).id ≡ d.id) (cleared : (d : Datapoint) → is_updated (g d).state ≡ false) where
  abbrev after : Choice → Datapoint
  after c = if c.carried then g c.datapoint else c.datapoint

  abbrev carried_of : List Choice → List Datapoint
  carried_of cs = map (λ (c : Choice). c.datapoint) (keep (λ (c : Choice). c.carried) cs)

  after_id : (c : Choice) → (after c).id ≡ c.datapoint.id
  after_id c = go c.carried
    where
      go : (u : Bool) → (if u then g c.datapoint else c.datapoint).id ≡ c.datapoint.id
      go true = same_id c.datapoint
      go false = refl

  -- none behind a record of this ID has it
  none_behind : (last : ℕ) (cs : List Choice) → id ≤ last → T (rising last (map (λ (c : Choice). c.datapoint.id) cs)) → (fresh id (carried_of cs) ≡ false) × (fresh id (map after cs) ≡ false)
  unfolding rising fresh
  none_behind last [] h t = (refl, refl)
  none_behind last (c ∷ cs) h t =
      let n : ℕ = c.datapoint.id in
      let above : last < n = ltb→lt last n (left (ltb last n) (rising n (map (λ (x : Choice). x.datapoint.id) cs)) t) in
      let other : eqb n id ≡ false = ne_eqb n id (λ e. omega (arith, e, h, above)) in
      let rest = none_behind n cs (omega (arith, h, above)) (right (ltb last n) (rising n (map (λ (x : Choice). x.datapoint.id) cs)) t) in
      (carried_rest c.carried other rest.0, or_false _ _ (other_fresh id (after c) (ap (λ (k : ℕ). eqb k id) (after_id c) ∙ other)) rest.1)
    where
      carried_rest : (u : Bool) → eqb c.datapoint.id id ≡ false → fresh id (carried_of cs) ≡ false → fresh id (map (λ (x : Choice). x.datapoint) (if u then c ∷ keep (λ (x : Choice). x.carried) cs else keep (λ (x : Choice). x.carried) cs)) ≡ false
      carried_rest true o r = unfold fresh in or_false _ _ (other_fresh id c.datapoint o) r
      carried_rest false o r = r

  -- a reading that is carried is spent
  spent : (last : ℕ) (cs : List Choice) → T (rising last (map (λ (c : Choice). c.datapoint.id) cs)) → fresh id (carried_of cs) ≡ true → fresh id (map after cs) ≡ false
  unfolding rising fresh
  spent last [] t e = absurd (true_T {b = false} e)
  spent last (c ∷ cs) t e =
      let n : ℕ = c.datapoint.id in
      let rises : T (rising n (map (λ (x : Choice). x.datapoint.id) cs)) = right (ltb last n) (rising n (map (λ (x : Choice). x.datapoint.id) cs)) t in
      go c.carried (eqb n id) refl e (λ h. none_behind n cs h rises) (spent n cs rises)
    where
      go : (u v : Bool) → eqb c.datapoint.id id ≡ v → fresh id (map (λ (x : Choice). x.datapoint) (if u then c ∷ keep (λ (x : Choice). x.carried) cs else keep (λ (x : Choice). x.carried) cs)) ≡ true
          → (id ≤ c.datapoint.id → (fresh id (carried_of cs) ≡ false) × (fresh id (map after cs) ≡ false)) → (fresh id (carried_of cs) ≡ true → fresh id (map after cs) ≡ false)
          → (is_fresh id (if u then g c.datapoint else c.datapoint) || fresh id (map after cs)) ≡ false
      go true true o f none ih = or_false _ _ (not_fresh id (g c.datapoint) (cleared c.datapoint)) (none (omega (arith, eqb-true c.datapoint.id id o))).1
      go true false o f none ih =
          let first : is_fresh id c.datapoint ≡ false = other_fresh id c.datapoint o in
          let rest : (is_fresh id c.datapoint || fresh id (carried_of cs)) ≡ true = unfold fresh in f in
          or_false _ _ (not_fresh id (g c.datapoint) (cleared c.datapoint)) (ih (rw first at rest))
      go false true o f none ih = absurd (true_T {b = false} (sym (none (omega (arith, eqb-true c.datapoint.id id o))).0 ∙ f))
      go false false o f none ih = or_false _ _ (other_fresh id c.datapoint o) (ih f)

  -- where none is, none is carried and none comes
  stays : (cs : List Choice) → fresh id (map (λ (c : Choice). c.datapoint) cs) ≡ false → (fresh id (carried_of cs) ≡ false) × (fresh id (map after cs) ≡ false)
  unfolding fresh
  stays [] e = (refl, refl)
  stays (c ∷ cs) e =
      let first : is_fresh id c.datapoint ≡ false = none_left _ _ e in
      let rest = stays cs (none_right (is_fresh id c.datapoint) (fresh id (map (λ (x : Choice). x.datapoint) cs)) e) in
      (go c.carried first rest.0, or_false _ _ (either c.carried first) rest.1)
    where
      go : (u : Bool) → is_fresh id c.datapoint ≡ false → fresh id (carried_of cs) ≡ false → fresh id (map (λ (x : Choice). x.datapoint) (if u then c ∷ keep (λ (x : Choice). x.carried) cs else keep (λ (x : Choice). x.carried) cs)) ≡ false
      go true f r = unfold fresh in or_false _ _ f r
      go false f r = r

      either : (u : Bool) → is_fresh id c.datapoint ≡ false → is_fresh id (if u then g c.datapoint else c.datapoint) ≡ false
      either true f = not_fresh id (g c.datapoint) (cleared c.datapoint)
      either false f = f

-- ---- records changed otherwise: bit 3 of the datapoint of this ID is not set
fresh_map : (id : ℕ) (f : Datapoint → Datapoint) → ((d : Datapoint) → is_fresh id d ≡ false → is_fresh id (f d) ≡ false) → (ds : List Datapoint) → fresh id ds ≡ false → fresh id (map f ds) ≡ false
unfolding fresh
fresh_map id f h [] e = refl
fresh_map id f h (d ∷ ds) e = or_false _ _ (h d (none_left _ _ e)) (fresh_map id f h ds (none_right (is_fresh id d) (fresh id ds) e))

fresh_changed : (id n : ℕ) (f : Datapoint → Datapoint) → ((d : Datapoint) → is_fresh id d ≡ false → eqb d.id n ≡ true → is_fresh id (f d) ≡ false) → (ds : List Datapoint) → fresh id ds ≡ false → fresh id (changed_at datapoint_id n f ds) ≡ false
unfolding changed_at
fresh_changed id n f h ds e = fresh_map id (λ (d : Datapoint). if eqb d.id n then f d else d) (λ d o. go d (eqb d.id n) refl o) ds e
  where
    go : (d : Datapoint) (u : Bool) → eqb d.id n ≡ u → is_fresh id d ≡ false → is_fresh id (if u then f d else d) ≡ false
    go d true q o = h d o q
    go d false q o = o

-- ---- a message and the tables after it: what is shown is spent, and where bit 3 is not set nothing is shown and it is not set afterwards
record Spends (id : ℕ) (t t' : Tables) (m : List ℕ) : Type 0 where
  spends : shows_updated id (values_in m) ≡ true → fresh id t'.datapoints ≡ false
  keeps : fresh id t.datapoints ≡ false → (shows_updated id (values_in m) ≡ false) × (fresh id t'.datapoints ≡ false)

-- a message that shows no value
silent : (id : ℕ) (t t' : Tables) (m : List ℕ) → shows_updated id (values_in m) ≡ false → (fresh id t.datapoints ≡ false → fresh id t'.datapoints ≡ false) → Spends id t t' m
silent id t t' m e h = record { spends = λ s. absurd (true_T {b = false} (sym e ∙ s)); keeps = λ f. (e, h f) }

no_message_lem : (id : ℕ) (t : Tables) → Spends id t t []
no_message_lem id t = silent id t t [] (unfold values_in shows_updated sub_service in refl) (λ f. f)

coded_shows : (id i c : ℕ) (m : List ℕ) → shows_updated id (values_in (coded m i c)) ≡ false
unfolding values_in coded number_of sub_service shows_updated shown_in
coded_shows id i c m = go (eqb (get_or m 1 0 + 0x80) 0x85 || eqb (get_or m 1 0 + 0x80) 0xC1)
  where
    go : (u : Bool) → shows_updated id (if u then [] else []) ≡ false
    go true = unfold shows_updated in refl
    go false = unfold shows_updated in refl

-- a listing of values shows its records, one of anything else shows none
listing_shows : (id sub start : ℕ) (ds : List Datapoint) → (sub ≡ 0x85) ⊎ (sub ≡ 0xC1) → T (every datapoint_ok ds) → shows_updated id (values_in (listing sub start (map value_entry ds))) ≡ fresh id ds
unfolding values_in listing number_of sub_service
listing_shows id sub start ds s ok =
    let n : ℕ = length (map value_entry ds) in
    let number : of_two_bytes (n / 256) (n % 256) ≡ n = omega arith in
    rw number (simp (is s) (shown_fresh id ds ok))
  where
    is : (sub ≡ 0x85) ⊎ (sub ≡ 0xC1) → (eqb sub 0x85 || eqb sub 0xC1) ≡ true
    is (inl e) = rw e refl
    is (inr e) = rw e refl

listing_silent : (id sub start : ℕ) (es : List AnswerEntry) → eqb sub 0x85 ≡ false → eqb sub 0xC1 ≡ false → shows_updated id (values_in (listing sub start es)) ≡ false
unfolding values_in listing sub_service shows_updated
listing_silent id sub start es p q = simp (p, q)

-- ---- each service
module _ (id : ℕ) (t : Tables) (m : List ℕ) where
  -- where something is wrong the answer is an error, and the tables are as they were
  by_finding : (f : Finding) (answer : List ℕ) (t' : Tables) → (f ≡ fine → Spends id t t' answer) → Spends id t (after_of f t t') (answer_of f m answer)
  unfolding after_of answer_of
  by_finding fine answer t' h = h refl
  by_finding (bad i c) answer t' h = silent id t t (coded m i c) (coded_shows id i c m) (λ e. e)

  -- a get of anything but values
  other_get : (size sub : ℕ) (bad-filter : Bool) (es : List AnswerEntry) → sub_service m ≡ sub → eqb (sub + 0x80) 0x85 ≡ false → eqb (sub + 0x80) 0xC1 ≡ false
      → Spends id t (getting size bad-filter es t t m).after (getting size bad-filter es t t m).says
  unfolding getting served
  other_get size sub bad-filter es s p q =
      by_finding (get_finding size bad-filter m es) (listing (sub_service m + 0x80) (start_of m) es) t
      (λ e. silent id t t _ (listing_silent id (sub_service m + 0x80) (start_of m) es (ap (λ (n : ℕ). eqb (n + 0x80) 0x85) s ∙ p) (ap (λ (n : ℕ). eqb (n + 0x80) 0xC1) s ∙ q)) (λ f. f))

  -- a set, by what it does to the datapoints; and one of entries
  a_finding : (f : Finding) (t' : Tables) → (fresh id t.datapoints ≡ false → fresh id t'.datapoints ≡ false)
      → Spends id t (after_of f t t') (answer_of f m (coded m (start_of m) 0))
  a_finding f t' k = by_finding f (coded m (start_of m) 0) t' (λ e. silent id t t' (coded m (start_of m) 0) (coded_shows id (start_of m) 0 m) k)

  a_set : (h : ℕ) (first : List ℕ → SetEntry) (judge : SetEntry → ℕ) (done : List SetEntry → Tables) → ((es : List SetEntry) → fresh id t.datapoints ≡ false → fresh id (done es).datapoints ≡ false)
      → Spends id t (setting h first judge done t m).after (setting h first judge done t m).says
  unfolding setting served
  a_set h first judge done k = a_finding (set_finding h first judge m) _ (k _)

-- a command leaves ID and bit 3
command_fresh : (id c : ℕ) (v : List ℕ) (d : Datapoint) → is_fresh id d ≡ false → is_fresh id (commanded c v d) ≡ false
unfolding is_fresh commanded with_state with_value
command_fresh id c v d = go (eqb c 1) (eqb c 2) (eqb c 3) (eqb c 4)
  where
    same : (n : ℕ) → bit 8 n ≡ bit 8 d.state → (eqb d.id id && is_updated d.state) ≡ false → (eqb d.id id && is_updated n) ≡ false
    same n e f = ap (λ (b : ℕ). eqb d.id id && eqb b 1) e ∙ f

    go : (a b c e : Bool) → (eqb d.id id && is_updated d.state) ≡ false
        → (eqb (if a then with_value v (with_valid d.state) d else if b then with_state (with_status 3 d.state) d else if c then with_value v (with_status 3 (with_valid d.state)) d else if e then with_state (with_request d.state) d else d).id id
        && is_updated (if a then with_value v (with_valid d.state) d else if b then with_state (with_status 3 d.state) d else if c then with_value v (with_status 3 (with_valid d.state)) d else if e then with_state (with_request d.state) d else d).state) ≡ false
    go true b c e h = unfold with_value in same (with_valid d.state) (bits_of_valid d.state).updated_bit h
    go false true c e h = unfold with_state in same (with_status 3 d.state) (bits_with_status 3 d.state (omega arith)).updated_bit h
    go false false true e h = unfold with_value in same (with_status 3 (with_valid d.state)) ((bits_with_status 3 (with_valid d.state) (omega arith)).updated_bit ∙ (bits_of_valid d.state).updated_bit) h
    go false false false true h = unfold with_state in same (with_request d.state) (bits_with_request d.state).updated_bit h
    go false false false false h = h

applied_fresh : (id : ℕ) (es : List SetEntry) (ds : List Datapoint) → fresh id ds ≡ false → fresh id (applied datapoint_id set_datapoint es ds) ≡ false
unfolding applied set_datapoint
applied_fresh id [] ds f = f
applied_fresh id (e ∷ es) ds f = applied_fresh id es _ (fresh_changed id e.id (λ (d : Datapoint). commanded e.command e.value d) (λ d o q. command_fresh id e.command e.value d o) ds f)

-- handed out: the ID stays, bit 3 is not set
pub out_id : (d : Datapoint) → (handed_out d).id ≡ d.id
unfolding handed_out with_state
out_id d = refl

out_cleared : (d : Datapoint) → is_updated (handed_out d).state ≡ false
unfolding handed_out with_state
out_cleared d = ne_eqb (bit 8 (without_updated d.state)) 1 (λ e. omega (arith, e, (bits_without_updated d.state).updated_bit))

pub report_id : (d : Datapoint) → (with_mark 0 (handed_out d)).id ≡ d.id
unfolding with_mark
report_id d = out_id d

report_cleared : (d : Datapoint) → is_updated (with_mark 0 (handed_out d)).state ≡ false
unfolding with_mark
report_cleared d = out_cleared d

-- records chosen by a test
chosen_by : (Datapoint → Bool) → List Datapoint → List Choice
chosen_by p ds = map (λ (d : Datapoint). record { datapoint = d; carried = p d }) ds

module _ (p : Datapoint → Bool) where
  chosen_all : (ds : List Datapoint) → map (λ (c : Choice). c.datapoint) (chosen_by p ds) ≡ ds
  unfolding chosen_by
  chosen_all [] = refl
  chosen_all (d ∷ ds) = ap {B = List Datapoint} (λ (r : List Datapoint). d ∷ r) (chosen_all ds)

  chosen_ids : (ds : List Datapoint) → map (λ (c : Choice). c.datapoint.id) (chosen_by p ds) ≡ map datapoint_id ds
  unfolding chosen_by
  chosen_ids [] = refl
  chosen_ids (d ∷ ds) = ap {B = List ℕ} (λ (r : List ℕ). d.id ∷ r) (chosen_ids ds)

  chosen_carried : (ds : List Datapoint) → map (λ (c : Choice). c.datapoint) (keep (λ (c : Choice). c.carried) (chosen_by p ds)) ≡ keep p ds
  unfolding chosen_by
  chosen_carried [] = refl
  chosen_carried (d ∷ ds) = go (p d) (chosen_carried ds)
    where
      go : (u : Bool) → map (λ (c : Choice). c.datapoint) (keep (λ (c : Choice). c.carried) (chosen_by p ds)) ≡ keep p ds
          → map (λ (c : Choice). c.datapoint) (if u then record { datapoint = d; carried = p d } ∷ keep (λ (c : Choice). c.carried) (chosen_by p ds) else keep (λ (c : Choice). c.carried) (chosen_by p ds)) ≡ (if u then d ∷ keep p ds else keep p ds)
      go true ih = ap {B = List Datapoint} (λ (r : List Datapoint). d ∷ r) ih
      go false ih = ih

  chosen_after : (g : Datapoint → Datapoint) (ds : List Datapoint) → map (λ (c : Choice). if c.carried then g c.datapoint else c.datapoint) (chosen_by p ds) ≡ map (λ (d : Datapoint). if p d then g d else d) ds
  unfolding chosen_by
  chosen_after g [] = refl
  chosen_after g (d ∷ ds) = ap {B = List Datapoint} (λ (r : List Datapoint). (if p d then g d else d) ∷ r) (chosen_after g ds)

-- GetDatapointValue
module _ (id : ℕ) (t : Tables) (m : List ℕ) (w : T (well_formed t)) where
  abbrev table : List Datapoint
  table = t.datapoints

  abbrev cs : List Choice
  cs = chosen_by (asked m) table

  table_ok_lem : T (every datapoint_ok table)
  table_ok_lem = entries_ok datapoint_id 1000 datapoint_ok table (tables-parts t w).datapoints

  table_rises : T (rising 0 (map datapoint_id table))
  table_rises = ids_rise datapoint_id 1000 datapoint_ok table (tables-parts t w).datapoints

  shown_values : sub_service m ≡ 0x05 → shows_updated id (values_in (listing (sub_service m + 0x80) (start_of m) (map value_entry (keep (asked m) table)))) ≡ fresh id (keep (asked m) table)
  shown_values s = listing_shows id (sub_service m + 0x80) (start_of m) (keep (asked m) table) (inl (ap (λ (n : ℕ). n + 0x80) s)) (every-keep (asked m) datapoint_ok table table_ok_lem)

  left_values : map (λ (c : Choice). if c.carried then handed_out c.datapoint else c.datapoint) cs ≡ (handing_out m t).datapoints
  unfolding handing_out
  left_values = chosen_after (asked m) handed_out table

  values_spend : sub_service m ≡ 0x05 → Spends id t (handing_out m t) (listing (sub_service m + 0x80) (start_of m) (map value_entry (keep (asked m) table)))
  values_spend s =
      record {
        spends = λ e.
            ap (fresh id) (sym left_values) ∙ spent id handed_out out_id out_cleared 0 cs (subst (λ (ns : List ℕ). T (rising 0 ns)) (sym (chosen_ids (asked m) table)) table_rises) (ap (fresh id) (chosen_carried (asked m) table) ∙ sym (shown_values s) ∙ e);
        keeps = λ e.
            let k = stays id handed_out out_id out_cleared cs (ap (fresh id) (chosen_all (asked m) table) ∙ e) in
            (shown_values s ∙ ap (fresh id) (sym (chosen_carried (asked m) table)) ∙ k.0, ap (fresh id) (sym left_values) ∙ k.1);
      }

  -- every message
  message_spends : Spends id t (carried_out t m).after (carried_out t m).says
  unfolding get_server_item set_server_item get_datapoint_description get_description_string get_datapoint_value set_datapoint_value get_parameter_byte set_parameter_byte
  message_spends =
      by_message (λ (s : Served). Spends id t s.after s.says) t m (no_message_lem id t)
      (by_service (λ (s : Served). Spends id t s.after s.says) t m
      (λ s. other_get id t m 6 0x01 false _ s refl refl)
      (λ s. a_set id t m 3 _ _ _ (λ es f. f))
      (λ s. other_get id t m 6 0x03 false _ s refl refl)
      (λ s. other_get id t m 6 0x04 false _ s refl refl)
      (λ s. unfold getting served in by_finding id t m (get_finding 7 (ltb 2 (filter_of m)) m _) _ (handing_out m t) (λ e. values_spend s))
      (λ s. a_set id t m 4 _ _ _ (λ es f. applied_fresh id es table f))
      (λ s. other_get id t m 6 0x07 false _ s refl refl)
      (λ s. unfold served in a_finding id t m (set_parameter_finding (length t.parameters) m) _ (λ f. f))
      (silent id t t (coded m (start_of m) 5) (coded_shows id (start_of m) 5 m) (λ f. f)))

-- ---- the indication
choices_all : (room : ℕ) (ds : List Datapoint) → map (λ (c : Choice). c.datapoint) (choices room ds) ≡ ds
unfolding choices
choices_all room [] = refl
choices_all room (d ∷ ds) = ap {B = List Datapoint} (λ (r : List Datapoint). d ∷ r) (choices_all (room_after room d) ds)

choices_ids : (room : ℕ) (ds : List Datapoint) → map (λ (c : Choice). c.datapoint.id) (choices room ds) ≡ map datapoint_id ds
unfolding choices
choices_ids room [] = refl
choices_ids room (d ∷ ds) = ap {B = List ℕ} (λ (r : List ℕ). d.id ∷ r) (choices_ids (room_after room d) ds)

choices_ok : (room : ℕ) (ds : List Datapoint) → T (every datapoint_ok ds) → T (every (λ (c : Choice). datapoint_ok c.datapoint) (choices room ds))
unfolding choices
choices_ok room [] ok = tt
choices_ok room (d ∷ ds) ok =
    both (datapoint_ok d) _ (left (datapoint_ok d) (every datapoint_ok ds) ok) (choices_ok (room_after room d) ds (right (datapoint_ok d) (every datapoint_ok ds) ok))

indication_shows : (id : ℕ) (ds : List Datapoint) → T (every datapoint_ok ds) → shows_updated id (values_in (indication_of ds)) ≡ fresh id ds
unfolding indication_of
indication_shows id [] ok = unfold values_in shows_updated sub_service fresh in refl
indication_shows id (d ∷ ds) ok = listing_shows id 0xC1 d.id (d ∷ ds) (inr refl) ok

module _ (id : ℕ) (t : Tables) (w : T (well_formed t)) where
  abbrev chosen : List Choice
  chosen = choices room_for_entries t.datapoints

  reported_ok : T (every datapoint_ok (reported chosen))
  unfolding reported
  reported_ok =
      every_map (λ (c : Choice). c.datapoint) datapoint_ok (λ (c : Choice). datapoint_ok c.datapoint) (λ c o. o) (keep (λ (c : Choice). c.carried) chosen)
      (every-keep (λ (c : Choice). c.carried) (λ (c : Choice). datapoint_ok c.datapoint) chosen (choices_ok room_for_entries t.datapoints (table_ok_lem id t [] w)))

  indication_spends : Spends id t (indication t).after (indication t).says
  unfolding indication reported after_report
  indication_spends =
      record {
        spends = λ e.
            spent id (λ (d : Datapoint). with_mark 0 (handed_out d)) report_id report_cleared 0 chosen (subst (λ (ns : List ℕ). T (rising 0 ns)) (sym (choices_ids room_for_entries t.datapoints)) (table_rises id t [] w))
            (sym (indication_shows id (reported chosen) reported_ok) ∙ e);
        keeps = λ e.
            let k = stays id (λ (d : Datapoint). with_mark 0 (handed_out d)) report_id report_cleared chosen (ap (fresh id) (choices_all room_for_entries t.datapoints) ∙ e) in
            (indication_shows id (reported chosen) reported_ok ∙ k.0, k.1);
      }

-- ---- each event
pub value_id : (v : List ℕ) (d : Datapoint) → (bus_value v d).id ≡ d.id
unfolding bus_value with_mark with_value
value_id v d = refl

outcome_fresh : (id s : ℕ) (d : Datapoint) → s < 4 → is_fresh id d ≡ false → is_fresh id (outcome s d) ≡ false
unfolding is_fresh outcome with_state
outcome_fresh id s d h f = ap (λ (b : ℕ). eqb d.id id && eqb b 1) (bits_with_status s d.state h).updated_bit ∙ f

byte_spends : (id : ℕ) (h : Heard) (b : ℕ) (t : Tables) (l : Line) → T (well_formed t) → Spends id t (on_moved (on_heard h b l) t).tables (builds_at h b t l)
unfolding on_moved on_heard handed_up saying builds_at
byte_spends id Gathered b t l w = no_message_lem id t
byte_spends id Dropped b t l w = no_message_lem id t
byte_spends id Ignored b t l w = no_message_lem id t
byte_spends id Acknowledged b t l w = no_message_lem id t
byte_spends id Reset b t l w = no_message_lem id t
byte_spends id Repeat b t l w = no_message_lem id t
byte_spends id (Request n) b t l w = message_spends id t (message_of (l.gathered ++ b ∷ [])) w

poll_spends : (id : ℕ) (t : Tables) (l : Line) → T (well_formed t) → Spends id t (on_poll t l).tables (builds Poll t l)
unfolding on_poll saying builds
poll_spends id t l w = go (is_empty l.outstanding) refl
  where
    go : (u : Bool) → is_empty l.outstanding ≡ u → Spends id t (on_poll t l).tables (builds Poll t l)
    go true e = simp (e, on_poll, builds) (indication_spends id t w)
    go false e = simp (e, on_poll, builds) (no_message_lem id t)

happens_spends : (id : ℕ) (e : Event) (v : List ℕ) (t : Tables) (l : Line) → T (well_formed t) → T (not (is_value_for id e)) → Spends id t (happens e v t l).tables (builds e t l)
unfolding happens builds is_value_for at_datapoint
happens_spends id (HostByte b) v t l w n = unfold on_host_byte in byte_spends id (heard_at b l) b t l w
happens_spends id IdleMark v t l w n = unfold on_moved handed_up on_idle_mark in no_message_lem id t
happens_spends id AckWaitOver v t l w n = subst (λ (d : Done). Spends id t d.tables []) (sym (waited l t)) (no_message_lem id t)
happens_spends id Poll v t l w n = poll_spends id t l w
happens_spends id (BusValue k) v t l w n =
    silent id t _ [] (unfold values_in shows_updated sub_service in refl)
    (fresh_changed id k (bus_value v) (λ d f e. other_fresh id (bus_value v d) (ap (λ (x : ℕ). eqb x id) (value_id v d ∙ eqb-true d.id k e) ∙ no_T (eqb k id) n)) t.datapoints)
happens_spends id (TransmissionOutcome k o) v t l w n =
    silent id t _ [] (unfold values_in shows_updated sub_service in refl)
    (fresh_changed id k (outcome (status_of o)) (λ d f e. outcome_fresh id (status_of o) d (omega (arith, status_fits o)) f) t.datapoints)

-- ---- calls one after the other: none once bit 3 is not set, and at most one in all
record AtMostOnce (id : ℕ) (hs : List Happening) (t : Tables) (k : Link) : Type 0 where
  none_more : fresh id t.datapoints ≡ false → times_handed_out id hs t k ≡ 0
  at_most : times_handed_out id hs t k ≤ 1

pub call_tables : (e : Event) (v : List ℕ) (t : Tables) (k : Link) (out : List ℕ) → refusal e v t k (length out) ≡ 0 → (call e v t k out).tables ≡ (happens e v t (line_of k)).tables
unfolding call accepted
call_tables e v t k out h = simp h

-- a call leaves what its event does to the tables, or the tables where it is refused
pub by_call : (P : Tables → Type 0) (e : Event) (v : List ℕ) (t : Tables) (k : Link) (out : List ℕ)
    → (refusal e v t k (length out) ≡ 0 → P (happens e v t (line_of k)).tables) → (refusal e v t k (length out) ≢ 0 → P t) → P (call e v t k out).tables
unfolding refused
by_call P e v t k out p q = go (ℕ_discrete (refusal e v t k (length out)) 0)
  where
    go : Dec (refusal e v t k (length out) ≡ 0) → P (call e v t k out).tables
    go (yes z) = subst P (sym (call_tables e v t k out z)) (p z)
    go (no n) = subst P (sym (ap (λ (c : Called). c.tables) (refused_leaves e v t k out (refusal e v t k (length out)) refl n))) (q n)

-- a host byte leaves what the message that it ends leaves; where the link hands up none, the tables as they were
up_tables : (u : Up) (s : List ℕ) (t : Tables) (l : Line) → (handed_up u s t l).tables ≡ (carried_out t (message_up u)).after
unfolding handed_up saying message_up carried_out unanswered
up_tables nothing s t l = refl
up_tables acknowledged s t l = refl
up_tables dropped s t l = refl
up_tables reset s t l = refl
up_tables (message m) s t l = refl

pub byte_tables : (b : ℕ) (v : List ℕ) (t : Tables) (l : Line) → (happens (HostByte b) v t l).tables ≡ (carried_out t (message_up (on_host_byte b l).up)).after
unfolding happens on_moved
byte_tables b v t l = up_tables (on_host_byte b l).up (on_host_byte b l).sent t (on_host_byte b l).line

-- a poll leaves what the indication leaves, or the tables as they were
pub by_poll : (P : Tables → Type 0) (t : Tables) (l : Line) → P (indication t).after → P t → P (on_poll t l).tables
unfolding on_poll saying
by_poll P t l p q = go (is_empty l.outstanding) refl
  where
    go : (u : Bool) → is_empty l.outstanding ≡ u → P (on_poll t l).tables
    go true e = simp (e, on_poll) p
    go false e = simp (e, on_poll) q

at_most_once : (id : ℕ) (hs : List Happening) (t : Tables) (k : Link) → T (all_accepted hs t k) → T (no_value_for id hs) → AtMostOnce id hs t k
unfolding all_accepted no_value_for times_handed_out
at_most_once id [] t k a n = record { none_more = λ f. refl; at_most = omega arith }
at_most_once id (h ∷ hs) t k a n =
    let c = call h.event h.value t k h.output in
    let r : ℕ = refusal h.event h.value t k (length h.output) in
    let first : r ≡ 0 = eqb-true r 0 (T_true (eqb r 0) (left (eqb r 0) (all_accepted hs c.tables c.link) a)) in
    let others : Bool = every (λ (x : Happening). not (is_value_for id x.event)) hs in
    let done : c.tables ≡ (happens h.event h.value t (line_of k)).tables = call_tables h.event h.value t k h.output first in
    let here = happens_spends id h.event h.value t (line_of k) (not_refused h.event h.value t k (length h.output) first).tables (left (not (is_value_for id h.event)) others n) in
    go (shows_updated id (values_in (builds h.event t (line_of k)))) refl (subst (λ (x : Tables). Spends id t x (builds h.event t (line_of k))) (sym done) here)
    (at_most_once id hs c.tables c.link (right (eqb r 0) (all_accepted hs c.tables c.link) a) (right (not (is_value_for id h.event)) others n))
  where
    go : (u : Bool) → shows_updated id (values_in (builds h.event t (line_of k))) ≡ u → Spends id t (call h.event h.value t k h.output).tables (builds h.event t (line_of k))
        → AtMostOnce id hs (call h.event h.value t k h.output).tables (call h.event h.value t k h.output).link → AtMostOnce id (h ∷ hs) t k
    go true e s rest =
        let n : ℕ = times_handed_out id hs (call h.event h.value t k h.output).tables (call h.event h.value t k h.output).link in
        let one : times_handed_out id (h ∷ hs) t k ≡ 1 + n = unfold times_handed_out hands_out in simp e in
        record { none_more = λ f. absurd (true_T {b = false} (sym (s.keeps f).0 ∙ e)); at_most = omega (arith, one, rest.none_more (s.spends e)) }
    go false e s rest =
        let n : ℕ = times_handed_out id hs (call h.event h.value t k h.output).tables (call h.event h.value t k h.output).link in
        let same : times_handed_out id (h ∷ hs) t k ≡ 0 + n = unfold times_handed_out hands_out in simp e in
        record { none_more = λ f. omega (arith, same, rest.none_more (s.keeps f).1); at_most = omega (arith, same, rest.at_most) }

pub handed_out_once : HandedOutOnce
handed_out_once id hs t k a n = (at_most_once id hs t k a n).at_most

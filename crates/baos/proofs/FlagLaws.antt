-- Config flags: which commands they let through, and that nothing but the command check of a set looks at them.
use Prim.Native.Nat.{ℕ, zero, suc, ◌+◌, ◌-◌, ◌<◌}
use mathlib.Core.Path.{◌≡◌, refl, sym, ◌∙◌, ap}
use mathlib.Core.Bool.{Bool, true, false, not, ◌&&◌, and-true}
use mathlib.Core.List.{List, [], ◌∷◌, map}
use native.Mathlib.Omega.{arith}
use lib.ListN.{length, drop}
use lib.Dec.{T, eqb, leb, ltb}
use borrow.Author.Tests.{lt-leb, ne_eqb, eqb-true}
use Rattle.std.specs.Prelude.{if◌then◌else◌}
use Rattle.words.specs.Words.{is_empty, keep, every}
use Rattle.words.proofs.WordLaws.{left, right}
use Rattle.baos.specs.declared.datapoint.Datapoint.{Datapoint}
use Rattle.baos.specs.declared.item.Item.{Item}
use Rattle.baos.specs.declared.lookup.Lookup.TheVariants.{Closed, Open}
use Rattle.baos.specs.declared.bus.BusEvent.{BusEvent}
use Rattle.baos.specs.declared.bus.BusEvent.TheVariants.{Value, Transmission}
use Rattle.baos.specs.Datapoint.{datapoint_id, datapoint_ok, value_of, with_state, with_value, with_mark, handed_out, bus_value, outcome, is_send, commanded}
use Rattle.baos.specs.Flags.{needed_bits_on, with_flags, reflagged, reflagged_served}
use Rattle.baos.specs.Item.{item_id}
use Rattle.baos.specs.Lookup.{communicates, transmits, lookup_of, is_present}
use Rattle.baos.specs.Table.{Tables, with_datapoints, with_items, rising, table_ok, well_formed, found, changed_at}
use Rattle.baos.specs.Message.{sub_service, start_of, number_of, filter_of, coded, Finding, fine, bad, Served, answer_of, after_of, served}
use Rattle.baos.specs.Get.{AnswerEntry, in_request, overflow, room_for_entries, listing, get_finding, getting, item_entry, get_server_item, description_entry, get_datapoint_description, string_entry, get_description_string, value_entry, passes, asked, handing_out, get_datapoint_value, parameter_entries, get_parameter_byte}
use Rattle.baos.specs.Set.{SetEntry, first_item_entry, first_datapoint_entry, fills, set_entries, takes_command, datapoint_code, judged_item, judged_datapoint, first_bad, set_finding, applied, setting, set_item, set_server_item, set_datapoint, set_datapoint_value, set_parameter_finding, set_parameter_byte}
use Rattle.baos.specs.Service.{service, unanswered, carried_out}
use Rattle.baos.specs.Bus.{takes, found_takes}
use Rattle.baos.specs.Indication.{needs, goes, room_after, Choice, choices, reported, after_report, indication_of, indication}
use Rattle.baos.proofs.LookupLaws.{present_one, present_some}

-- ---- the command check by findings is the paper's sentence about bits
pub taken_as_needed : (d : Datapoint) (ds : List Datapoint) (c : ℕ) → takes_command (lookup_of (d ∷ ds)) d.flags c ≡ (leb c 4 && needed_bits_on d.flags c)
unfolding lookup_of takes_command needed_bits_on
taken_as_needed d ds c = go (communicates d.flags) c
  where
    Same : Bool → ℕ → Type 0
    Same u n = takes_command (if u then Open else Closed) d.flags n ≡ (leb n 4 && (if is_send n then u && transmits d.flags else if eqb n 4 then u else true))

    above : (u : Bool) (n : ℕ) → 4 < n → Same u n
    above true n h = simp (lt-leb n 4 h, ne_eqb n 2 (λ e. omega (arith, e, h)), ne_eqb n 3 (λ e. omega (arith, e, h)), ne_eqb n 4 (λ e. omega (arith, e, h)))
    above false n h = simp (lt-leb n 1 (omega (arith, h)), lt-leb n 4 h)

    go : (u : Bool) (n : ℕ) → Same u n
    go true zero = refl
    go true (suc zero) = refl
    go true (suc (suc zero)) = refl
    go true (suc (suc (suc zero))) = refl
    go true (suc (suc (suc (suc zero)))) = refl
    go false zero = refl
    go false (suc zero) = refl
    go false (suc (suc zero)) = refl
    go false (suc (suc (suc zero))) = refl
    go false (suc (suc (suc (suc zero)))) = refl
    go u (suc (suc (suc (suc (suc n))))) = above u (suc (suc (suc (suc (suc n))))) (omega arith)

-- ---- what a request for descriptions is answered
pub descriptions_served : (t : Tables) (m : List ℕ) → sub_service m ≡ 0x03 →
    let listed = keep (λ (d : Datapoint). in_request m d.id) t.datapoints in
    get_datapoint_description t m ≡ record { says = answer_of (get_finding 6 false m (map description_entry listed)) m (listing 0x83 (start_of m) (map description_entry listed)); after = t }
unfolding get_datapoint_description getting served
descriptions_served t m e =
    ap (λ (n : ℕ). served finding m (listing (n + 0x80) (start_of m) (map description_entry listed)) t t) e
    ∙ ap (λ (x : Tables). record { says = answer_of finding m (listing 0x83 (start_of m) (map description_entry listed)); after = x }) (stays finding)
  where
    listed : List Datapoint
    listed = keep (λ (d : Datapoint). in_request m d.id) t.datapoints

    finding : Finding
    finding = get_finding 6 false m (map description_entry listed)

    stays : (f : Finding) → after_of f t t ≡ t
    stays fine = unfold after_of in refl
    stays (bad i c) = unfold after_of in refl

module _ (flags : ℕ → ℕ) where
  abbrev flagged : Datapoint → Datapoint
  flagged d = with_flags (flags d.id) d

  -- ---- runs of records
  kept_flagged : (p : Datapoint → Bool) → ((d : Datapoint) → p (flagged d) ≡ p d) → (ds : List Datapoint) → keep p (map flagged ds) ≡ map flagged (keep p ds)
  kept_flagged p same [] = refl
  kept_flagged p same (d ∷ ds) = rw (same d) (go (p d) (kept_flagged p same ds))
    where
      go : (u : Bool) → keep p (map flagged ds) ≡ map flagged (keep p ds) → (if u then flagged d ∷ keep p (map flagged ds) else keep p (map flagged ds)) ≡ map flagged (if u then d ∷ keep p ds else keep p ds)
      go true r = ap {B = List Datapoint} (λ (xs : List Datapoint). flagged d ∷ xs) r
      go false r = r

  shown_flagged : {A : Type 0} (f : Datapoint → A) → ((d : Datapoint) → f (flagged d) ≡ f d) → (ds : List Datapoint) → map f (map flagged ds) ≡ map f ds
  shown_flagged f same [] = refl
  shown_flagged {A} f same (d ∷ ds) = rw (same d) (ap {B = List A} (λ (xs : List A). f d ∷ xs) (shown_flagged f same ds))

  changed_flagged : (g : Datapoint → Datapoint) → ((d : Datapoint) → g (flagged d) ≡ flagged (g d)) → (ds : List Datapoint) → map g (map flagged ds) ≡ map flagged (map g ds)
  changed_flagged g same [] = refl
  changed_flagged g same (d ∷ ds) = rw (same d) (ap {B = List Datapoint} (λ (xs : List Datapoint). flagged (g d) ∷ xs) (changed_flagged g same ds))

  every_flagged : (p : Datapoint → Bool) → ((d : Datapoint) → p (flagged d) ≡ p d) → (ds : List Datapoint) → every p (map flagged ds) ≡ every p ds
  every_flagged p same [] = refl
  every_flagged p same (d ∷ ds) = rw (same d) (ap (λ (y : Bool). p d && y) (every_flagged p same ds))

  length_flagged : (ds : List Datapoint) → length (map flagged ds) ≡ length ds
  length_flagged [] = refl
  length_flagged (d ∷ ds) = omega (arith, length_flagged ds)

  pub found_flagged : (n : ℕ) (ds : List Datapoint) → found datapoint_id n (map flagged ds) ≡ map flagged (found datapoint_id n ds)
  unfolding found with_flags
  found_flagged n [] = refl
  found_flagged n (d ∷ ds) = go (eqb d.id n) (found_flagged n ds)
    where
      go : (u : Bool) → found datapoint_id n (map flagged ds) ≡ map flagged (found datapoint_id n ds) → (if u then flagged d ∷ [] else found datapoint_id n (map flagged ds)) ≡ map flagged (if u then d ∷ [] else found datapoint_id n ds)
      go true r = refl
      go false r = r

  -- the record of an ID changed, by a change that neither looks at the flags nor touches them
  pub changed_at_flagged : (n : ℕ) (g : Datapoint → Datapoint) → ((d : Datapoint) → g (flagged d) ≡ flagged (g d)) → (ds : List Datapoint) → changed_at datapoint_id n g (map flagged ds) ≡ map flagged (changed_at datapoint_id n g ds)
  unfolding changed_at with_flags
  changed_at_flagged n g same ds = changed_flagged (λ (d : Datapoint). if eqb d.id n then g d else d) at_one ds
    where
      go : (d : Datapoint) (u : Bool) → (if u then g (flagged d) else flagged d) ≡ flagged (if u then g d else d)
      go d true = same d
      go d false = refl

      at_one : (d : Datapoint) → (if eqb (flagged d).id n then g (flagged d) else flagged d) ≡ flagged (if eqb d.id n then g d else d)
      at_one d = go d (eqb d.id n)

  -- ---- changes of one record
  handed_out_flagged : (d : Datapoint) → handed_out (flagged d) ≡ flagged (handed_out d)
  unfolding with_flags handed_out with_state
  handed_out_flagged d = refl

  pub bus_value_flagged : (v : List ℕ) (d : Datapoint) → bus_value v (flagged d) ≡ flagged (bus_value v d)
  unfolding with_flags bus_value with_mark with_value
  bus_value_flagged v d = refl

  pub outcome_flagged : (n : ℕ) (d : Datapoint) → outcome n (flagged d) ≡ flagged (outcome n d)
  unfolding with_flags outcome with_state
  outcome_flagged n d = refl

  command_flagged : (c : ℕ) (v : List ℕ) (d : Datapoint) → commanded c v (flagged d) ≡ flagged (commanded c v d)
  unfolding with_flags with_state with_value commanded
  command_flagged c v d = go (eqb c 1) (eqb c 2) (eqb c 3) (eqb c 4) refl refl refl refl
    where
      go : (p q r s : Bool) → eqb c 1 ≡ p → eqb c 2 ≡ q → eqb c 3 ≡ r → eqb c 4 ≡ s → commanded c v (flagged d) ≡ flagged (commanded c v d)
      go true q r s e1 e2 e3 e4 = simp e1
      go false true r s e1 e2 e3 e4 = simp (e1, e2)
      go false false true s e1 e2 e3 e4 = simp (e1, e2, e3)
      go false false false true e1 e2 e3 e4 = simp (e1, e2, e3, e4)
      go false false false false e1 e2 e3 e4 = simp (e1, e2, e3, e4)

  -- ---- the tables are well formed or not
  ids_flagged : (last : ℕ) (ds : List Datapoint) → rising last (map datapoint_id (map flagged ds)) ≡ rising last (map datapoint_id ds)
  ids_flagged last ds = ap (rising last) (shown_flagged datapoint_id (λ d. unfold with_flags in refl) ds)

  ok_flagged : (d : Datapoint) → datapoint_ok (flagged d) ≡ datapoint_ok d
  unfolding with_flags datapoint_ok value_of
  ok_flagged d = refl

  pub well_formed_flagged : (t : Tables) → well_formed (reflagged flags t) ≡ well_formed t
  unfolding reflagged well_formed table_ok
  well_formed_flagged t =
      rw (length_flagged t.datapoints, ids_flagged 0 t.datapoints, every_flagged datapoint_ok ok_flagged t.datapoints) refl

  -- ---- bus events
  pub found-takes_flagged : (e : BusEvent) (v : List ℕ) (ds : List Datapoint) → found_takes e v (map flagged ds) ≡ found_takes e v ds
  unfolding found_takes
  found-takes_flagged e v ds = ap (λ (y : Bool). y && every (takes e v) (map flagged ds)) (present_same ds) ∙ ap (λ (y : Bool). is_present (lookup_of ds) && y) (every_flagged (takes e v) (takes_same e) ds)
    where
      present_same : (xs : List Datapoint) → is_present (lookup_of (map flagged xs)) ≡ is_present (lookup_of xs)
      present_same [] = refl
      present_same (d ∷ xs) = present_some (flagged d ∷ map flagged xs) ∙ sym (present_some (d ∷ xs))

      takes_same : (b : BusEvent) (d : Datapoint) → takes b v (flagged d) ≡ takes b v d
      takes_same Value d = unfold takes with_flags in refl
      takes_same (Transmission o) d = unfold takes in refl

  -- ---- gets
  after_flagged : (f : Finding) (t t' : Tables) → after_of f (reflagged flags t) (reflagged flags t') ≡ reflagged flags (after_of f t t')
  unfolding after_of
  after_flagged fine t t' = refl
  after_flagged (bad i c) t t' = refl

  getting_flagged : (size : ℕ) (badFilter : Bool) (es : List AnswerEntry) (t t' : Tables) (m : List ℕ)
      → getting size badFilter es (reflagged flags t) (reflagged flags t') m ≡ reflagged_served flags (getting size badFilter es t t' m)
  unfolding getting served
  getting_flagged size badFilter es t t' m =
      ap (λ (x : Tables). record { says = answer_of (get_finding size badFilter m es) m (listing (sub_service m + 0x80) (start_of m) es); after = x }) (after_flagged (get_finding size badFilter m es) t t')

  asked_flagged : (m : List ℕ) (d : Datapoint) → asked m (flagged d) ≡ asked m d
  unfolding with_flags asked passes
  asked_flagged m d = refl

  entry_flagged : (d : Datapoint) → value_entry (flagged d) ≡ value_entry d
  unfolding with_flags value_entry value_of
  entry_flagged d = refl

  entries_flagged : (m : List ℕ) (ds : List Datapoint) → map value_entry (keep (asked m) (map flagged ds)) ≡ map value_entry (keep (asked m) ds)
  entries_flagged m ds = ap (map value_entry) (kept_flagged (asked m) (asked_flagged m) ds) ∙ shown_flagged value_entry entry_flagged (keep (asked m) ds)

  handing_out_flagged : (m : List ℕ) (t : Tables) → handing_out m (reflagged flags t) ≡ reflagged flags (handing_out m t)
  unfolding handing_out reflagged
  handing_out_flagged m t = ap (λ (ds : List Datapoint). with_datapoints ds t) (changed_flagged (λ (d : Datapoint). if asked m d then handed_out d else d) at_one t.datapoints)
    where
      go : (d : Datapoint) (u : Bool) → (if u then handed_out (flagged d) else flagged d) ≡ flagged (if u then handed_out d else d)
      go d true = handed_out_flagged d
      go d false = refl

      at_one : (d : Datapoint) → (if asked m (flagged d) then handed_out (flagged d) else flagged d) ≡ flagged (if asked m d then handed_out d else d)
      at_one d = ap (λ (u : Bool). if u then handed_out (flagged d) else flagged d) (asked_flagged m d) ∙ go d (asked m d)

  pub get_values_flagged : (t : Tables) (m : List ℕ) → get_datapoint_value (reflagged flags t) m ≡ reflagged_served flags (get_datapoint_value t m)
  unfolding get_datapoint_value reflagged
  get_values_flagged t m =
      ap (λ (x : Tables). getting 7 (ltb 2 (filter_of m)) (map value_entry (keep (asked m) (reflagged flags t).datapoints)) (reflagged flags t) x m) (handing_out_flagged m t)
      ∙ ap (λ (es : List AnswerEntry). getting 7 (ltb 2 (filter_of m)) es (reflagged flags t) (reflagged flags (handing_out m t)) m) (entries_flagged m t.datapoints)
      ∙ getting_flagged 7 (ltb 2 (filter_of m)) (map value_entry (keep (asked m) t.datapoints)) t (handing_out m t) m

  get_strings_flagged : (t : Tables) (m : List ℕ) → get_description_string (reflagged flags t) m ≡ reflagged_served flags (get_description_string t m)
  unfolding get_description_string reflagged
  get_strings_flagged t m =
      ap (λ (es : List AnswerEntry). getting 6 false es (reflagged flags t) (reflagged flags t) m) strings
      ∙ getting_flagged 6 false (map (string_entry t.texts) (keep within t.datapoints)) t t m
    where
      within : Datapoint → Bool
      within d = in_request m d.id

      strings : map (string_entry t.texts) (keep within (map flagged t.datapoints)) ≡ map (string_entry t.texts) (keep within t.datapoints)
      strings =
          ap (map (string_entry t.texts)) (kept_flagged within (λ d. unfold with_flags in refl) t.datapoints)
          ∙ shown_flagged (string_entry t.texts) (λ d. unfold with_flags string_entry in refl) (keep within t.datapoints)

  -- descriptions show the flags: the same datapoints are found, and answered about
  overflow_flagged : (room : ℕ) (ds : List Datapoint) → overflow room (map description_entry (map flagged ds)) ≡ overflow room (map description_entry ds)
  unfolding overflow description_entry with_flags
  overflow_flagged room [] = refl
  overflow_flagged room (d ∷ ds) = ap (λ (rest : List ℕ). if ltb room 5 then d.id ∷ [] else rest) (overflow_flagged (room - 5) ds)

  none_flagged : (ds : List Datapoint) → is_empty (map description_entry (map flagged ds)) ≡ is_empty (map description_entry ds)
  none_flagged [] = refl
  none_flagged (d ∷ ds) = refl

  finding_flagged : (m : List ℕ) (ds : List Datapoint) → get_finding 6 false m (map description_entry (map flagged ds)) ≡ get_finding 6 false m (map description_entry ds)
  unfolding get_finding
  finding_flagged m ds = rw (overflow_flagged room_for_entries ds, none_flagged ds) refl

  pub get_descriptions_flagged : (t : Tables) (m : List ℕ) → sub_service m ≡ 0x03 →
      let listed = keep (λ (d : Datapoint). in_request m d.id) t.datapoints in
      get_datapoint_description (reflagged flags t) m
      ≡ record { says = answer_of (get_finding 6 false m (map description_entry listed)) m (listing 0x83 (start_of m) (map description_entry (map flagged listed))); after = reflagged flags t }
  get_descriptions_flagged t m e =
      descriptions_served (reflagged flags t) m e
      ∙ ap (λ (ds : List Datapoint). record { says = answer_of (get_finding 6 false m (map description_entry ds)) m (listing 0x83 (start_of m) (map description_entry ds)); after = reflagged flags t }) kept
      ∙ ap (λ (f : Finding). record { says = answer_of f m (listing 0x83 (start_of m) (map description_entry (map flagged listed))); after = reflagged flags t }) (finding_flagged m listed)
    where
      listed : List Datapoint
      listed = keep (λ (d : Datapoint). in_request m d.id) t.datapoints

      kept : keep (λ (d : Datapoint). in_request m d.id) (reflagged flags t).datapoints ≡ map flagged listed
      kept = unfold reflagged in kept_flagged (λ (d : Datapoint). in_request m d.id) (λ d. unfold with_flags in refl) t.datapoints

  -- ---- sets
  applied_flagged : (es : List SetEntry) (ds : List Datapoint) → applied datapoint_id set_datapoint es (map flagged ds) ≡ map flagged (applied datapoint_id set_datapoint es ds)
  unfolding applied
  applied_flagged [] ds = refl
  applied_flagged (e ∷ es) ds =
      ap (applied datapoint_id set_datapoint es) (changed_at_flagged e.id (set_datapoint e) (λ d. unfold set_datapoint in command_flagged e.command e.value d) ds) ∙ applied_flagged es (changed_at datapoint_id e.id (set_datapoint e) ds)

  -- an entry is judged alike where its command has the bits that it needs with both flags, or with neither
  abbrev pub bits_on : Tables → SetEntry → Bool
  bits_on t e = every (λ (d : Datapoint). needed_bits_on d.flags e.command) (found datapoint_id e.id t.datapoints)

  abbrev judged_in : Tables → SetEntry → ℕ
  judged_in t e = judged_datapoint (found datapoint_id e.id t.datapoints) e

  one_flagged : (d : Datapoint) (e : SetEntry) → needed_bits_on (flags d.id) e.command ≡ needed_bits_on d.flags e.command → judged_datapoint (flagged d ∷ []) e ≡ judged_datapoint (d ∷ []) e
  unfolding judged_datapoint datapoint_code with_flags
  one_flagged d e p =
      let taken : takes_command (lookup_of (flagged d ∷ [])) (flags d.id) e.command ≡ takes_command (lookup_of (d ∷ [])) d.flags e.command =
      taken_as_needed (flagged d) [] e.command ∙ ap (λ (y : Bool). leb e.command 4 && y) p ∙ sym (taken_as_needed d [] e.command) in
      rw (present_one (flagged d) [], present_one d [], taken) refl

  judged_flagged : (ds : List Datapoint) (e : SetEntry) → let bits = every (λ (d : Datapoint). needed_bits_on d.flags e.command) in
      bits (found datapoint_id e.id (map flagged ds)) ≡ bits (found datapoint_id e.id ds) → judged_datapoint (found datapoint_id e.id (map flagged ds)) e ≡ judged_datapoint (found datapoint_id e.id ds) e
  unfolding found with_flags
  judged_flagged [] e p = refl
  judged_flagged (d ∷ ds) e p = go (eqb d.id e.id) p (judged_flagged ds e)
    where
      bits : List Datapoint → Bool
      bits xs = every (λ (x : Datapoint). needed_bits_on x.flags e.command) xs

      go : (u : Bool) → bits (if u then flagged d ∷ [] else found datapoint_id e.id (map flagged ds)) ≡ bits (if u then d ∷ [] else found datapoint_id e.id ds)
          → (bits (found datapoint_id e.id (map flagged ds)) ≡ bits (found datapoint_id e.id ds) → judged_datapoint (found datapoint_id e.id (map flagged ds)) e ≡ judged_datapoint (found datapoint_id e.id ds) e)
          → judged_datapoint (if u then flagged d ∷ [] else found datapoint_id e.id (map flagged ds)) e ≡ judged_datapoint (if u then d ∷ [] else found datapoint_id e.id ds) e
      go true p rest = one_flagged d e (sym (and-true (needed_bits_on (flags d.id) e.command)) ∙ p ∙ and-true (needed_bits_on d.flags e.command))
      go false p rest = rest p

  first_bad_flagged : (t : Tables) (alike : SetEntry → Bool) → ((e : SetEntry) → T (alike e) → bits_on (reflagged flags t) e ≡ bits_on t e) → (es : List SetEntry) → T (every alike es) → first_bad (judged_in (reflagged flags t)) es ≡ first_bad (judged_in t) es
  unfolding first_bad reflagged
  first_bad_flagged t alike same [] a = refl
  first_bad_flagged t alike same (e ∷ es) a =
      rw (judged_flagged t.datapoints e (same e (left (alike e) (every alike es) a)))
      (ap (λ (rest : Finding). if eqb (judged_in t e) 0 then rest else bad e.id (judged_in t e)) (first_bad_flagged t alike same es (right (alike e) (every alike es) a)))

  setting_flagged : (h : ℕ) (first : List ℕ → SetEntry) (judge judge' : SetEntry → ℕ) (done done' : List SetEntry → Tables) (t : Tables) (m : List ℕ)
      → first_bad judge' (set_entries first h (number_of m) (drop 6 m)) ≡ first_bad judge (set_entries first h (number_of m) (drop 6 m)) → ((es : List SetEntry) → done' es ≡ reflagged flags (done es))
      → setting h first judge' done' (reflagged flags t) m ≡ reflagged_served flags (setting h first judge done t m)
  unfolding setting served set_finding
  setting_flagged h first judge judge' done done' t m same leaves =
      let es : List SetEntry = set_entries first h (number_of m) (drop 6 m) in
      ap (λ (f : Finding). served (if not (fills h (number_of m) (drop 6 m)) then bad (start_of m) 10 else if eqb (number_of m) 0 then bad (start_of m) 6 else f) m (coded m (start_of m) 0) (reflagged flags t) (done' es)) same
      ∙ ap (λ (x : Tables). served (set_finding h first judge m) m (coded m (start_of m) 0) (reflagged flags t) x) (leaves es)
      ∙ ap (λ (x : Tables). record { says = answer_of (set_finding h first judge m) m (coded m (start_of m) 0); after = x }) (after_flagged (set_finding h first judge m) t (done es))

  pub set_values_flagged : (t : Tables) (m : List ℕ) (alike : SetEntry → Bool) → ((e : SetEntry) → T (alike e) → bits_on (reflagged flags t) e ≡ bits_on t e)
      → T (every alike (set_entries first_datapoint_entry 4 (number_of m) (drop 6 m))) → set_datapoint_value (reflagged flags t) m ≡ reflagged_served flags (set_datapoint_value t m)
  unfolding set_datapoint_value
  set_values_flagged t m alike same a =
      setting_flagged 4 first_datapoint_entry (judged_in t) (judged_in (reflagged flags t)) (λ es. with_datapoints (applied datapoint_id set_datapoint es t.datapoints) t) _ t m
      (first_bad_flagged t alike same (set_entries first_datapoint_entry 4 (number_of m) (drop 6 m)) a) leaves
    where
      leaves : (es : List SetEntry) → with_datapoints (applied datapoint_id set_datapoint es (reflagged flags t).datapoints) (reflagged flags t) ≡ reflagged flags (with_datapoints (applied datapoint_id set_datapoint es t.datapoints) t)
      leaves es = unfold reflagged in ap (λ (ds : List Datapoint). with_datapoints ds t) (applied_flagged es t.datapoints)

  -- ---- services of the other tables
  get_items_flagged : (t : Tables) (m : List ℕ) → get_server_item (reflagged flags t) m ≡ reflagged_served flags (get_server_item t m)
  unfolding get_server_item reflagged
  get_items_flagged t m = getting_flagged 6 false (map item_entry (keep (λ (i : Item). in_request m i.id) t.items)) t t m

  get_parameters_flagged : (t : Tables) (m : List ℕ) → get_parameter_byte (reflagged flags t) m ≡ reflagged_served flags (get_parameter_byte t m)
  unfolding get_parameter_byte reflagged
  get_parameters_flagged t m =
      getting_flagged 6 false (if eqb (start_of m) 0 then [] else keep (λ (e : AnswerEntry). in_request m e.id) (parameter_entries 1 t.parameters)) t t m

  set_items_flagged : (t : Tables) (m : List ℕ) → set_server_item (reflagged flags t) m ≡ reflagged_served flags (set_server_item t m)
  unfolding set_server_item reflagged
  set_items_flagged t m =
      setting_flagged 3 first_item_entry (λ e. judged_item (found item_id e.id t.items) e) _ (λ es. with_items (applied item_id set_item es t.items) t) _ t m refl (λ es. refl)

  set_parameters_flagged : (t : Tables) (m : List ℕ) → set_parameter_byte (reflagged flags t) m ≡ reflagged_served flags (set_parameter_byte t m)
  unfolding set_parameter_byte served reflagged
  set_parameters_flagged t m =
      let f : Finding = set_parameter_finding (length t.parameters) m in
      ap (λ (x : Tables). record { says = answer_of f m (coded m (start_of m) 0); after = x }) (after_flagged f _ _)

  -- ---- every message, but for descriptions and sets
  both_ways : (u : Bool) (x y x' y' : Served) → (u ≡ true → x' ≡ reflagged_served flags x) → y' ≡ reflagged_served flags y → (if u then x' else y') ≡ reflagged_served flags (if u then x else y)
  both_ways true x y x' y' p q = p refl
  both_ways false x y x' y' p q = q

  pub carried_out_flagged : (t : Tables) (m : List ℕ) → (sub_service m ≡ 0x03 → get_datapoint_description (reflagged flags t) m ≡ reflagged_served flags (get_datapoint_description t m))
      → (sub_service m ≡ 0x06 → set_datapoint_value (reflagged flags t) m ≡ reflagged_served flags (set_datapoint_value t m)) → carried_out (reflagged flags t) m ≡ reflagged_served flags (carried_out t m)
  unfolding carried_out service
  carried_out_flagged t m descriptions sets =
      both_ways (unanswered m) _ _ _ _ (λ e. refl)
      (both_ways (sub 0x01) _ _ _ _ (λ e. get_items_flagged t m)
      (both_ways (sub 0x02) _ _ _ _ (λ e. set_items_flagged t m)
      (both_ways (sub 0x03) _ _ _ _ (λ e. descriptions (eqb-true (sub_service m) 0x03 e))
      (both_ways (sub 0x04) _ _ _ _ (λ e. get_strings_flagged t m)
      (both_ways (sub 0x05) _ _ _ _ (λ e. get_values_flagged t m)
      (both_ways (sub 0x06) _ _ _ _ (λ e. sets (eqb-true (sub_service m) 0x06 e))
      (both_ways (sub 0x07) _ _ _ _ (λ e. get_parameters_flagged t m)
      (both_ways (sub 0x08) _ _ _ _ (λ e. set_parameters_flagged t m) refl))))))))
    where
      sub : ℕ → Bool
      sub n = eqb (sub_service m) n

  -- ---- an indication
  abbrev flagged_choice : Choice → Choice
  flagged_choice c = record { datapoint = flagged c.datapoint; carried = c.carried }

  choices_flagged : (room : ℕ) (ds : List Datapoint) → choices room (map flagged ds) ≡ map flagged_choice (choices room ds)
  unfolding choices goes room_after needs value_entry value_of with_flags
  choices_flagged room [] = refl
  choices_flagged room (d ∷ ds) = ap {B = List Choice} (λ (cs : List Choice). record { datapoint = flagged d; carried = goes room d } ∷ cs) (choices_flagged (room_after room d) ds)

  reported_flagged : (cs : List Choice) → reported (map flagged_choice cs) ≡ map flagged (reported cs)
  unfolding reported
  reported_flagged [] = refl
  reported_flagged (c ∷ cs) = go c.carried (reported_flagged cs)
    where
      go : (u : Bool) → reported (map flagged_choice cs) ≡ map flagged (reported cs)
          → map (λ (x : Choice). x.datapoint) (if u then flagged_choice c ∷ keep (λ (x : Choice). x.carried) (map flagged_choice cs) else keep (λ (x : Choice). x.carried) (map flagged_choice cs))
          ≡ map flagged (map (λ (x : Choice). x.datapoint) (if u then c ∷ keep (λ (x : Choice). x.carried) cs else keep (λ (x : Choice). x.carried) cs))
      go true r = ap {B = List Datapoint} (λ (ds : List Datapoint). flagged c.datapoint ∷ ds) r
      go false r = r

  after_report_flagged : (cs : List Choice) → after_report (map flagged_choice cs) ≡ map flagged (after_report cs)
  unfolding after_report with_mark handed_out with_state with_flags
  after_report_flagged [] = refl
  after_report_flagged (c ∷ cs) = go c.carried (after_report_flagged cs)
    where
      go : (u : Bool) → after_report (map flagged_choice cs) ≡ map flagged (after_report cs)
          → ◌≡◌ {A = List Datapoint} ((if u then with_mark 0 (handed_out (flagged c.datapoint)) else flagged c.datapoint) ∷ after_report (map flagged_choice cs))
          (flagged (if u then with_mark 0 (handed_out c.datapoint) else c.datapoint) ∷ map flagged (after_report cs))
      go true r = ap {B = List Datapoint} (λ (ds : List Datapoint). flagged (with_mark 0 (handed_out c.datapoint)) ∷ ds) r
      go false r = ap {B = List Datapoint} (λ (ds : List Datapoint). flagged c.datapoint ∷ ds) r

  said_flagged : (ds : List Datapoint) → indication_of (map flagged ds) ≡ indication_of ds
  unfolding indication_of with_flags
  said_flagged [] = refl
  said_flagged (d ∷ ds) = ap (listing 0xC1 d.id) (shown_flagged value_entry entry_flagged (d ∷ ds))

  pub indication_flagged : (t : Tables) → indication (reflagged flags t) ≡ reflagged_served flags (indication t)
  unfolding indication reflagged
  indication_flagged t =
      let cs : List Choice = choices room_for_entries t.datapoints in
      ap (λ (x : List Choice). record { says = indication_of (reported x); after = with_datapoints (after_report x) t }) (choices_flagged room_for_entries t.datapoints)
      ∙ ap (λ (ds : List Datapoint). record { says = indication_of ds; after = with_datapoints (after_report (map flagged_choice cs)) t }) (reported_flagged cs)
      ∙ ap (λ (says : List ℕ). record { says = says; after = with_datapoints (after_report (map flagged_choice cs)) t }) (said_flagged (reported cs))
      ∙ ap (λ (ds : List Datapoint). record { says = indication_of (reported cs); after = with_datapoints ds t }) (after_report_flagged cs)

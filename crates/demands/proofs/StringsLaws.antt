-- Requests for description strings: what they are answered, that they and all else leave the texts, and which text an ID has.
use Prim.Native.Nat.{ℕ, zero, suc, ◌+◌, ◌-◌, ◌*◌, ◌≤◌, ◌<◌}
use mathlib.Core.Path.{◌≡◌, refl, sym, ◌∙◌, ap, subst}
use mathlib.Core.Logic.{◌≢◌, ◌⊎◌, inl, inr}
use mathlib.Core.Bool.{Bool, true, false, not, and-false}
use mathlib.Core.List.{List, [], ◌∷◌, ◌++◌, map, flatten}
use native.Mathlib.Omega.{arith}
use native.Mathlib.Nat.{pos_of_ne-zero}
use lib.ListN.{length, get_or, take, drop, length-append}
use lib.Dec.{T, ltb, eqb, ltb→lt, eqb→eq}
use borrow.Author.Tests.{lt-ltb, le-ltb, eq-eqb, ne_eqb, eqb-true, eqb-false, ltb-true, ltb-false}
use Rattle.std.specs.Prelude.{if◌then◌else◌}
use Rattle.words.specs.Words.{two_bytes, keep, is_empty}
use Rattle.words.proofs.WordLaws.{left, right, both}
use Rattle.ft12.specs.Record.{Line, line_of}
use Rattle.ft12.specs.Rules.{on_host_byte, on_idle_mark}
use Rattle.baos.specs.declared.datapoint.Datapoint.{Datapoint}
use Rattle.baos.specs.Text.{Stretch}
use Rattle.baos.specs.Datapoint.{datapoint_id, datapoint_ok}
use Rattle.baos.specs.TextList.{ListEntry, MadeOf, EntryAt, text_list_ok}
use Rattle.baos.specs.Text.{TextLists, text_lists_ok, entries_for, chosen, stretch_of, holder, stretch_bytes, text_of}
use Rattle.baos.specs.Table.{Tables, rising, well_formed}
use Rattle.baos.specs.Message.{sub_service, start_of, number_of, coded, Finding, fine, bad, Served, answer_of, served}
use Rattle.baos.specs.Get.{AnswerEntry, in_request, overflow, room_for_entries, listing, get_finding, getting, string_of, string_entry, get_description_string}
use Rattle.baos.specs.Service.{unanswered, carried_out}
use Rattle.baos.specs.Indication.{indication}
use Rattle.baos.proofs.TableLaws.{rises_decided, ids_rise, rising_lower}
use Rattle.baos.proofs.KeepLaws.{parts, carried_texts}
use Rattle.baos.proofs.ServiceLaws.{is_get_string, strings_leave_all}
use Rattle.baos.proofs.StringLaws.{string_short}
use Rattle.baos.proofs.ListedLaws.{begins_at, Found, text_named, text_unnamed, text_list_decided}
use Rattle.calls.specs.declared.event.Event.{Event}
use Rattle.calls.specs.declared.event.Event.TheVariants.{HostByte, IdleMark, AckWaitOver, Poll, BusValue, TransmissionOutcome}
use Rattle.calls.specs.Event.{at_datapoint}
use Rattle.calls.specs.Call.{Done, handed_up, on_moved, happens, call}
use Rattle.calls.proofs.CallJoins.{waited}
use Rattle.calls.proofs.CallLaws.{refusal_1, refused_leaves}
use Rattle.walks.proofs.Branches.{no_T}
use Rattle.demands.proofs.HandedOutLaws.{by_call, byte_tables, by_poll}
use Rattle.demands.specs.Entries.{message_up}
use Rattle.demands.specs.Status.{tables_after_all}
use Rattle.demands.specs.Strings.{asks_for_strings, AsksSome, present_in_range, strings_refused, length_and_text, strings_answer, StringsGiven, positive, negative, StringsAnswered, EachStringsAnswered, InRisingId, StringsChangeNothing, TextsOnlyRead, TextsOnlyReadByCall, TextsStand, EntryFor, NoEntryFor, text_begins, EachTextOf, ListsRefused, GettingStrings}

-- ---- the strings of datapoints
module _ (ts : TextLists) where
  -- one after the other
  abbrev bytes_of_strings : List Datapoint → List ℕ
  bytes_of_strings ds = flatten (map (λ (d : Datapoint). length_and_text (text_of d.id ts)) ds)

  abbrev entries : List Datapoint → List AnswerEntry
  entries ds = map (string_entry ts) ds

  entry_bytes_lem : (d : Datapoint) → (string_entry ts d).bytes ≡ length_and_text (text_of d.id ts)
  unfolding string_entry string_of length_and_text
  entry_bytes_lem d = refl

  entries_bytes : (ds : List Datapoint) → flatten (map (λ (e : AnswerEntry). e.bytes) (entries ds)) ≡ bytes_of_strings ds
  unfolding flatten
  entries_bytes [] = refl
  entries_bytes (d ∷ ds) = λ i. entry_bytes_lem d i ++ entries_bytes ds i

  bytes_more : (d : Datapoint) (ds : List Datapoint) → length (bytes_of_strings (d ∷ ds)) ≡ length (string_entry ts d).bytes + length (bytes_of_strings ds)
  unfolding flatten
  bytes_more d ds = length-append (length_and_text (text_of d.id ts)) (bytes_of_strings ds) ∙ ap (λ (s : List ℕ). length s + length (bytes_of_strings ds)) (sym (entry_bytes_lem d))

  bytes_none : length (bytes_of_strings []) ≡ 0
  unfolding flatten
  bytes_none = refl

  as_many : (ds : List Datapoint) → length (entries ds) ≡ length ds
  as_many [] = refl
  as_many (d ∷ ds) = ap suc (as_many ds)

  -- of few datapoints they are few
  bytes_few : (ds : List Datapoint) → length (bytes_of_strings ds) ≤ 32 * length ds
  bytes_few [] = omega (arith, bytes_none)
  bytes_few (d ∷ ds) = omega (arith, bytes_more d ds, string_short ts d, bytes_few ds)

  -- ---- those that do not fit
  over_here : (room : ℕ) (d : Datapoint) (ds : List Datapoint) → room < length (string_entry ts d).bytes → overflow room (entries (d ∷ ds)) ≡ d.id ∷ []
  unfolding overflow
  over_here room d ds h = simp (lt-ltb room (length (string_entry ts d).bytes) h) (unfold string_entry in refl)

  over_later : (room : ℕ) (d : Datapoint) (ds : List Datapoint) → length (string_entry ts d).bytes ≤ room → overflow room (entries (d ∷ ds)) ≡ overflow (room - length (string_entry ts d).bytes) (entries ds)
  unfolding overflow
  over_later room d ds h = simp (le-ltb room (length (string_entry ts d).bytes) h)

  over_none : (room : ℕ) (ds : List Datapoint) → length (bytes_of_strings ds) ≤ room → overflow room (entries ds) ≡ []
  over_none room [] h = unfold overflow in refl
  over_none room (d ∷ ds) h =
      over_later room d ds (omega (arith, h, bytes_more d ds))
      ∙ over_none (room - length (string_entry ts d).bytes) ds (omega (arith, h, bytes_more d ds))

  over_first : (room : ℕ) (ds : List Datapoint) (i : ℕ) (e : Datapoint) → i < length ds → length (bytes_of_strings (take i ds)) ≤ room → room < length (bytes_of_strings (take (suc i) ds))
      → overflow room (entries ds) ≡ (get_or ds i e).id ∷ []
  over_first room [] i e h f o = absurd (omega (arith, h))
  over_first room (d ∷ ds) zero e h f o = over_here room d ds (omega (arith, o, bytes_more d [], bytes_none))
  over_first room (d ∷ ds) (suc i) e h f o =
      over_later room d ds (omega (arith, f, bytes_more d (take i ds)))
      ∙ over_first (room - length (string_entry ts d).bytes) ds i e (omega (arith, h)) (omega (arith, f, bytes_more d (take i ds)))
      (omega (arith, o, f, bytes_more d (take (suc i) ds), bytes_more d (take i ds)))

  -- where not all fit, one is the first that does not
  record Over (room : ℕ) (ds : List Datapoint) : Type 0 where
    at : ℕ
    inside : at < length ds
    fit : length (bytes_of_strings (take at ds)) ≤ room
    over : room < length (bytes_of_strings (take (suc at) ds))

  some_over : (room : ℕ) (ds : List Datapoint) → room < length (bytes_of_strings ds) → Over room ds
  some_over room [] h = absurd (omega (arith, h, bytes_none))
  some_over room (d ∷ ds) h = go (ltb room (length (string_entry ts d).bytes)) refl (some_over (room - length (string_entry ts d).bytes) ds)
    where
      go : (u : Bool) → ltb room (length (string_entry ts d).bytes) ≡ u
          → (room - length (string_entry ts d).bytes < length (bytes_of_strings ds) → Over (room - length (string_entry ts d).bytes) ds) → Over room (d ∷ ds)
      go true e r =
          record {
            at = 0;
            inside = omega arith;
            fit = omega (arith, bytes_none);
            over = omega (arith, ltb-true room (length (string_entry ts d).bytes) e, bytes_more d [], bytes_none);
          }
      go false e r =
          let here : length (string_entry ts d).bytes ≤ room = ltb-false room (length (string_entry ts d).bytes) e in
          let o : Over (room - length (string_entry ts d).bytes) ds = r (omega (arith, h, here, bytes_more d ds)) in
          record {
            at = suc o.at;
            inside = omega (arith, o.inside);
            fit = omega (arith, o.fit, here, bytes_more d (take o.at ds));
            over = omega (arith, o.over, here, bytes_more d (take (suc o.at) ds));
          }

-- ---- what is answered
module _ (t : Tables) (m : List ℕ) (a : T (asks_for_strings m)) where
  abbrev here : List Datapoint
  here = present_in_range t m

  abbrev told : List AnswerEntry
  told = entries t.texts here

  abbrev finding : Finding
  finding = get_finding 6 false m told

  sub_is : sub_service m ≡ 0x04
  unfolding asks_for_strings
  sub_is = eqb→eq (sub_service m) 4 (right (not (unanswered m)) (eqb (sub_service m) 4) a)

  carried : carried_out t m ≡ get_description_string t m
  unfolding asks_for_strings
  carried = is_get_string t m (no_T (unanswered m) (left (not (unanswered m)) (eqb (sub_service m) 4) a)) sub_is

  pub left_alone : (carried_out t m).after ≡ t
  left_alone = ap (λ (s : Served). s.after) carried ∙ strings_leave_all t m

  refused_so : (i c : ℕ) → coded m i c ≡ strings_refused i c
  unfolding coded strings_refused
  refused_so i c = ap (λ (n : ℕ). 0xF0 ∷ (n + 0x80) ∷ two_bytes i ++ 0 ∷ 0 ∷ c ∷ []) sub_is

  listed_so : listing (sub_service m + 0x80) (start_of m) told ≡ strings_answer t m here
  unfolding listing strings_answer
  listed_so = λ i. 0xF0 ∷ (sub_is i + 0x80) ∷ two_bytes (start_of m) ++ two_bytes (as_many t.texts here i) ++ entries_bytes t.texts here i

  by_finding : (carried_out t m).says ≡ answer_of finding m (listing (sub_service m + 0x80) (start_of m) told)
  unfolding get_description_string getting served present_in_range
  by_finding = ap (λ (s : Served). s.says) carried

  bad_says : (i c : ℕ) → finding ≡ bad i c → (carried_out t m).says ≡ strings_refused i c
  unfolding answer_of
  bad_says i c e = by_finding ∙ ap (λ (f : Finding). answer_of f m (listing (sub_service m + 0x80) (start_of m) told)) e ∙ refused_so i c

  fine_says : finding ≡ fine → (carried_out t m).says ≡ strings_answer t m here
  unfolding answer_of
  fine_says e = by_finding ∙ ap (λ (f : Finding). answer_of f m (listing (sub_service m + 0x80) (start_of m) told)) e ∙ listed_so

  -- the size of an answer
  answer_size : (ds : List Datapoint) → length (strings_answer t m ds) ≡ 6 + length (bytes_of_strings t.texts ds)
  unfolding strings_answer
  answer_size ds = omega arith

  -- ---- what the checks find
  finds_10 : length m ≢ 6 → finding ≡ bad (start_of m) 10
  unfolding get_finding
  finds_10 n = simp (ne_eqb (length m) 6 n)

  finds_6 : length m ≡ 6 → number_of m ≡ 0 → finding ≡ bad (start_of m) 6
  unfolding get_finding
  finds_6 l z = simp (eq-eqb (length m) 6 l, eq-eqb (number_of m) 0 z)

  module _ (s : AsksSome m) where
    later : finding ≡ (if is_empty told then bad (start_of m) 2 else if is_empty (overflow room_for_entries told) then fine else bad (get_or (overflow room_for_entries told) 0 0) 3)
    unfolding get_finding
    later = simp (eq-eqb (length m) 6 s.six_bytes, ne_eqb (number_of m) 0 (λ z. omega (arith, z, s.some)))

    finds_2 : here ≡ [] → finding ≡ bad (start_of m) 2
    finds_2 e = later ∙ ap (λ (ds : List Datapoint). if is_empty (entries t.texts ds) then bad (start_of m) 2 else if is_empty (overflow room_for_entries told) then fine else bad (get_or (overflow room_for_entries told) 0 0) 3) e

    module _ (p : 1 ≤ length here) where
      not_none : (xs : List AnswerEntry) → 1 ≤ length xs → is_empty xs ≡ false
      not_none [] h = absurd (omega (arith, h))
      not_none (x ∷ xs) h = refl

      measured : finding ≡ (if is_empty (overflow room_for_entries told) then fine else bad (get_or (overflow room_for_entries told) 0 0) 3)
      measured =
          later
          ∙ ap (λ (u : Bool). if u then bad (start_of m) 2 else if is_empty (overflow room_for_entries told) then fine else bad (get_or (overflow room_for_entries told) 0 0) 3)
          (not_none told (omega (arith, p, as_many t.texts here)))

      finds_3 : (i : ℕ) → overflow room_for_entries told ≡ i ∷ [] → finding ≡ bad i 3
      finds_3 i e = measured ∙ ap (λ (o : List ℕ). if is_empty o then fine else bad (get_or o 0 0) 3) e

      finds_none : overflow room_for_entries told ≡ [] → finding ≡ fine
      finds_none e = measured ∙ ap (λ (o : List ℕ). if is_empty o then fine else bad (get_or o 0 0) 3) e

  -- one of five
  given : StringsGiven t m
  given = go (eqb (length m) 6) (eqb (number_of m) 0) (is_empty told) (is_empty (overflow room_for_entries told)) refl refl refl refl
    where
      go : (a b c d : Bool) → eqb (length m) 6 ≡ a → eqb (number_of m) 0 ≡ b → is_empty told ≡ c → is_empty (overflow room_for_entries told) ≡ d → StringsGiven t m
      go false b c d p q r s = negative (start_of m) 10 (bad_says (start_of m) 10 (unfold get_finding in simp p)) (inl refl)
      go true true c d p q r s = negative (start_of m) 6 (bad_says (start_of m) 6 (unfold get_finding in simp (p, q))) (inr (inl refl))
      go true false true d p q r s = negative (start_of m) 2 (bad_says (start_of m) 2 (unfold get_finding in simp (p, q, r))) (inr (inr (inl refl)))
      go true false false false p q r s = negative (get_or (overflow room_for_entries told) 0 0) 3 (bad_says (get_or (overflow room_for_entries told) 0 0) 3 (unfold get_finding in simp (p, q, r, s))) (inr (inr (inr refl)))
      go true false false true p q r s = positive (fine_says (unfold get_finding in simp (p, q, r, s)))

  pub strings_answered : StringsAnswered t m
  strings_answered =
      record {
        code_10 = λ n. bad_says (start_of m) 10 (finds_10 n);
        code_6 = λ l z. bad_says (start_of m) 6 (finds_6 l z);
        code_2 = λ s e. bad_says (start_of m) 2 (finds_2 s e);
        code_3 = λ s i d f.
            bad_says (get_or here i d).id 3
            (finds_3 s (omega (arith, f.present)) (get_or here i d).id
            (over_first t.texts room_for_entries here i d f.present (omega (arith, f.fit, answer_size (take i here))) (omega (arith, f.over, answer_size (take (suc i) here)))));
        some_first = λ h.
            let o = some_over t.texts room_for_entries here (omega (arith, h, answer_size here)) in
            (o.at, record { present = o.inside; fit = omega (arith, o.fit, answer_size (take o.at here)); over = omega (arith, o.over, answer_size (take (suc o.at) here)) });
        strings = λ s p f. fine_says (finds_none s p (over_none t.texts room_for_entries here (omega (arith, f, answer_size here))));
        no_other = given;
        seven_fit = λ h. omega (arith, h, answer_size here, bytes_few t.texts here);
      }

each_answered : EachStringsAnswered
each_answered t m a = strings_answered t m a

change_nothing : StringsChangeNothing
change_nothing t m a = left_alone t m a

-- ---- in rising ID
rising_kept : (p : Datapoint → Bool) (last : ℕ) (ds : List Datapoint) → T (rising last (map datapoint_id ds)) → T (rising last (map datapoint_id (keep p ds)))
unfolding rising
rising_kept p last [] r = tt
rising_kept p last (d ∷ ds) r = go (p d) (rising_kept p d.id ds (right (ltb last d.id) (rising d.id (map datapoint_id ds)) r))
  where
    above : T (ltb last d.id)
    above = left (ltb last d.id) (rising d.id (map datapoint_id ds)) r

    go : (u : Bool) → T (rising d.id (map datapoint_id (keep p ds))) → T (rising last (map datapoint_id (if u then d ∷ keep p ds else keep p ds)))
    go true q = both (ltb last d.id) (rising d.id (map datapoint_id (keep p ds))) above q
    go false q = rising_lower last d.id (map datapoint_id (keep p ds)) (omega (arith, ltb→lt last d.id above)) q

in_rising_id : InRisingId
unfolding present_in_range
in_rising_id t m w =
    (rises_decided (map datapoint_id (present_in_range t m))).0
    (rising_kept (λ (d : Datapoint). in_request m d.id) 0 t.datapoints (ids_rise datapoint_id 1000 datapoint_ok t.datapoints (parts t w).datapoints))

-- ---- the texts are only read
only_read : TextsOnlyRead
only_read = carried_texts

happens_reads : (e : Event) (v : List ℕ) (t : Tables) (l : Line) → (happens e v t l).tables.texts ≡ t.texts
unfolding happens at_datapoint on_moved
happens_reads (HostByte b) v t l = ap (λ (x : Tables). x.texts) (byte_tables b v t l) ∙ only_read t (message_up (on_host_byte b l).up)
happens_reads IdleMark v t l = unfold handed_up on_idle_mark in refl
happens_reads AckWaitOver v t l = ap (λ (d : Done). d.tables.texts) (waited l t)
happens_reads Poll v t l = by_poll (λ (x : Tables). x.texts ≡ t.texts) t l (unfold indication in refl) refl
happens_reads (BusValue id) v t l = refl
happens_reads (TransmissionOutcome id o) v t l = refl

only_read_by_call : TextsOnlyReadByCall
only_read_by_call e v t k out = by_call (λ (x : Tables). x.texts ≡ t.texts) e v t k out (λ r. happens_reads e v t (line_of k)) (λ r. refl)

texts_stand : TextsStand
unfolding tables_after_all
texts_stand [] t k = refl
texts_stand (x ∷ hs) t k =
    let c = call x.event x.value t k x.output in
    texts_stand hs c.tables c.link ∙ only_read_by_call x.event x.value t k x.output

-- ---- which text an ID has
-- what stands at a place of a list, whatever would stand behind the list
whichever : {A : Type 0} (xs : List A) (i : ℕ) (d e : A) → i < length xs → get_or xs i d ≡ get_or xs i e
whichever [] i d e h = absurd (omega (arith, h))
whichever (x ∷ xs) zero d e h = refl
whichever (x ∷ xs) (suc i) d e h = whichever xs i d e (omega (arith, h))

-- the entries of a list for an ID: that one, or none
module _ (es : List ListEntry) (s : List ℕ) (l : MadeOf es s) (id : ℕ) where
  module _ (text : List ℕ) (i : ℕ) (f : EntryFor id text i es) where
    none : ListEntry
    none = record { id = 0; text = [] }

    named : Found id text (text_begins i es) (entries_for id s) s
    unfolding text_begins
    named =
        subst (λ (e : ListEntry). Found e.id e.text (begins_at i es) (entries_for e.id s) s) (f.entry none)
        (text_named es s l i none f.within (omega (arith, f.not_empty, ap (λ (e : ListEntry). length e.text) (f.entry none))))

  none_found : NoEntryFor id es → entries_for id s ≡ []
  none_found n = text_unnamed es s l id (λ i e h p. by i e h p (eqb (length (get_or es i e).text) 0) refl)
    where
      by : (i : ℕ) (e : ListEntry) → i < length es → (get_or es i e).id ≡ id → (u : Bool) → eqb (length (get_or es i e).text) 0 ≡ u → length (get_or es i e).text ≡ 0
      by i e h p true q = eqb-true (length (get_or es i e).text) 0 q
      by i e h p false q =
          absurd (n (get_or es i e).text i
          record {
            within = h;
            entry = λ x. whichever es i x e h ∙ (λ j. record { id = p j; text = (get_or es i e).text });
            not_empty = pos_of_ne-zero (eqb-false (length (get_or es i e).text) 0 q);
          })

each_text : EachTextOf
unfolding stretch_of chosen text_of stretch_bytes
each_text es ds ts id p q =
    record {
      from_site = λ text i f.
          let c : stretch_of id ts ≡ record { ofsite = true; from = text_begins i es; size = length text } = ap (λ (xs : List EntryAt). chosen xs (entries_for id ts.defaults)) (named es ts.site p id text i f).one in
          (reads c (named es ts.site p id text i f).spelt, c);
      from_default = λ n text i f.
          let c : stretch_of id ts ≡ record { ofsite = false; from = text_begins i ds; size = length text } = λ j. chosen (none_found es ts.site p id n j) ((named ds ts.defaults q id text i f).one j) in
          (reads c (named ds ts.defaults q id text i f).spelt, c);
      empty_start = λ n o.
          let c : stretch_of id ts ≡ record { ofsite = false; from = 0; size = 0 } = λ j. chosen (none_found es ts.site p id n j) (none_found ds ts.defaults q id o j) in
          (reads c refl, c);
    }
  where
    reads : {s : Stretch} {text : List ℕ} → stretch_of id ts ≡ s → take s.size (drop s.from (holder s ts.site ts.defaults)) ≡ text → text_of id ts ≡ text
    reads e r = ap (λ (x : Stretch). stretch_bytes x ts) e ∙ r

-- ---- a list that is none
lists_refused : ListsRefused
unfolding well_formed text_lists_ok
lists_refused e v t k out w = refused_leaves e v t k out 1 (refusal_1 e v t k (length out) (ill w)) (λ z. omega (arith, z))
  where
    ill : (text_list_ok t.texts.site ≡ false) ⊎ (text_list_ok t.texts.defaults ≡ false) → well_formed t ≡ false
    ill (inl f) = simp (f, and-false)
    ill (inr f) = simp (f, and-false)

pub getting_strings : GettingStrings
getting_strings =
    record {
      each_answered = each_answered;
      in_rising_id = in_rising_id;
      change_nothing = change_nothing;
      only_read = only_read;
      only_read_by_call = only_read_by_call;
      texts_stand = texts_stand;
      each_text = each_text;
      lists_decided = text_list_decided;
      lists_refused = lists_refused;
    }

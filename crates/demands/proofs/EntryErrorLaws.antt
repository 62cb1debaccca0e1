-- A request with an entry that is judged bad: refused whole, and answered with the first such entry's code.
use Prim.Native.Nat.{ℕ}
use mathlib.Core.Path.{◌≡◌, refl, sym, ◌∙◌, ap, subst}
use mathlib.Core.Logic.{◌≢◌}
use mathlib.Core.Bool.{Bool, true, false, not}
use mathlib.Core.List.{List, [], ◌∷◌, ◌++◌}
use native.Mathlib.Omega.{arith}
use lib.ListN.{drop}
use lib.Dec.{T, eqb, eqb→eq}
use borrow.Author.Tests.{ne_eqb}
use Rattle.std.specs.Prelude.{if◌then◌else◌}
use Rattle.words.specs.Words.{is_empty, keep, every}
use Rattle.words.proofs.WordLaws.{left, right, true_T, T_true}
use Rattle.ft12.specs.Record.{line_of}
use Rattle.ft12.specs.Rules.{on_host_byte}
use Rattle.baos.specs.Datapoint.{datapoint_id}
use Rattle.baos.specs.Lookup.{lookup_of, is_present}
use Rattle.baos.specs.Table.{Tables, found}
use Rattle.baos.specs.Message.{sub_service, number_of, coded, bad, Served}
use Rattle.baos.specs.Set.{SetEntry, first_datapoint_entry, fills, first_bad, set_finding, judged_datapoint, set_datapoint_value}
use Rattle.baos.specs.Service.{unanswered, carried_out}
use Rattle.baos.proofs.LeftLaws.{none_left, each_fine}
use Rattle.baos.proofs.SettingLaws.{by_setting}
use Rattle.baos.proofs.ServiceLaws.{not_answered, is_set_value, set_value_finding, bad_set_value}
use Rattle.baos.proofs.EntryLaws.{code_of_absent}
use Rattle.calls.specs.declared.event.Event.TheVariants.{HostByte}
use Rattle.demands.specs.Answers.{ErrorAnswer}
use Rattle.demands.specs.Entries.{entries_of, holds_entry, message_up, RefusedWhole, CallRefusedWhole, CommandCode}
use Rattle.demands.proofs.ErrorLaws.{errors_change_nothing}
use Rattle.demands.proofs.HandedOutLaws.{by_call, byte_tables}

-- where each fails a test, none passes it
none_kept : {A : Type 0} (p : A → Bool) (xs : List A) → T (every (λ x. not (p x)) xs) → T (not (is_empty (keep p xs))) → ⊥
none_kept p [] e n = n
none_kept p (x ∷ xs) e n = go (p x) (left (not (p x)) (every (λ y. not (p y)) xs) e) (none_kept p xs (right (not (p x)) (every (λ y. not (p y)) xs) e)) n
  where
    go : (u : Bool) → T (not u) → (T (not (is_empty (keep p xs))) → ⊥) → T (not (is_empty (if u then x ∷ keep p xs else keep p xs))) → ⊥
    go true o rest n = o
    go false o rest n = rest n

pub coded_error : (m : List ℕ) (i c : ℕ) → c ≢ 0 → ErrorAnswer (coded m i c)
unfolding coded
coded_error m i c n = record { seven = refl; no_entries = (refl, refl); code = n }

-- how an entry is judged
abbrev pub judge : Tables → SetEntry → ℕ
judge t e = judged_datapoint (found datapoint_id e.id t.datapoints) e

pub judged_absent : (t : Tables) (e : SetEntry) → is_present (lookup_of (found datapoint_id e.id t.datapoints)) ≡ false → judge t e ≡ 7
unfolding judged_datapoint
judged_absent t e h = code_of_absent _ _ _ _ h

-- ---- no entry for which p holds is judged fine
module _ (p : Tables → SetEntry → Bool) (not-fine : (t : Tables) (e : SetEntry) → judge t e ≡ 0 → T (not (p t e))) where
  set_error : (t : Tables) (m : List ℕ) → T (not (is_empty (keep (p t) (entries_of m)))) → ErrorAnswer (set_datapoint_value t m).says
  unfolding set_datapoint_value entries_of
  set_error t m n =
      by_setting 4 first_datapoint_entry (judge t) _ t m (λ (s : Served). ErrorAnswer s.says) (coded_error m)
      (λ z. absurd (none_kept (p t) (entries_of m) (true_T (each_fine (judge t) (λ e. not (p t e)) (not-fine t) (entries_of m) z)) n))

  pub refused_whole : RefusedWhole p
  unfolding holds_entry
  refused_whole t m h = go (unanswered m) refl
    where
      six : sub_service m ≡ 0x06
      six = eqb→eq (sub_service m) 0x06 (left (eqb (sub_service m) 0x06) (not (is_empty (keep (p t) (entries_of m)))) h)

      held : T (not (is_empty (keep (p t) (entries_of m))))
      held = right (eqb (sub_service m) 0x06) (not (is_empty (keep (p t) (entries_of m)))) h

      go : (u : Bool) → unanswered m ≡ u → (unanswered m ≡ false → ErrorAnswer (carried_out t m).says) × ((carried_out t m).after ≡ t)
      go true e = ((λ f. absurd (true_T {b = false} (sym f ∙ e))), ap (λ (s : Served). s.after) (not_answered t m e))
      go false e =
          let error : ErrorAnswer (carried_out t m).says = subst (λ (s : Served). ErrorAnswer s.says) (sym (is_set_value t m e six)) (set_error t m held) in
          ((λ f. error), errors_change_nothing t m error)

  pub call_refused_whole : CallRefusedWhole p
  call_refused_whole b v t k out h =
      by_call (λ (t' : Tables). t' ≡ t) (HostByte b) v t k out (λ z. byte_tables b v t (line_of k) ∙ (refused_whole t (message_up (on_host_byte b (line_of k)).up) h).1) (λ z. refl)

-- ---- the first bad entry, behind good ones
first_bad_at : (judge : SetEntry → ℕ) (before : List SetEntry) (e : SetEntry) (behind : List SetEntry) → T (every (λ o. eqb (judge o) 0) before) → judge e ≡ 8
    → first_bad judge (before ++ e ∷ behind) ≡ bad e.id 8
unfolding first_bad
first_bad_at judge [] e behind g z = rw z refl
first_bad_at judge (o ∷ before) e behind g z =
    rw (T_true (eqb (judge o) 0) (left (eqb (judge o) 0) (every (λ x. eqb (judge x) 0) before) g)) (first_bad_at judge before e behind (right (eqb (judge o) 0) (every (λ x. eqb (judge x) 0) before) g) z)

some_in_front : (before : List SetEntry) (e : SetEntry) (behind : List SetEntry) → [] ≡ before ++ e ∷ behind → ⊥
some_in_front [] e behind z = absurd (true_T {b = false} (ap is_empty (sym z)))
some_in_front (o ∷ before) e behind z = absurd (true_T {b = false} (ap is_empty (sym z)))

pub command_code : (p : Tables → SetEntry → Bool) → ((t : Tables) (e : SetEntry) → T (p t e) → judge t e ≡ 8) → CommandCode p
command_code p judged t m before e behind a six f s g h = ap (λ (x : Served). x.says) (is_set_value t m a six ∙ bad_set_value t m finds)
  where
    stated : number_of m ≢ 0
    stated n = some_in_front before e behind (sym (none_left first_datapoint_entry 4 (number_of m) (drop 6 m) (omega (arith, n))) ∙ (unfold entries_of in s))

    first : first_bad (judge t) (entries_of m) ≡ bad e.id 8
    first = ap (first_bad (judge t)) s ∙ first_bad_at (judge t) before e behind g (judged t e h)

    finds : set_value_finding t m ≡ bad e.id 8
    finds = unfold set_finding in rw (T_true (fills 4 (number_of m) (drop 6 m)) f, ne_eqb (number_of m) 0 stated) (unfold entries_of in first)

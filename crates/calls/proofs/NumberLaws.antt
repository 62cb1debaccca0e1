-- The numbers that firmware gives and gets: which event they name, and that the answer is a number of 32 bits.
use Prim.Native.Nat.{ℕ, zero, suc, ◌≤◌, ◌<◌, ◌^◌}
use mathlib.Core.Path.{◌≡◌, refl, sym, ap, subst, ◌∙◌}
use mathlib.Core.Logic.{◌≢◌}
use mathlib.Core.Bool.{Bool, true, false}
use mathlib.Core.List.{List, [], ◌∷◌}
use native.Mathlib.Omega.{arith}
use lib.ListN.{get_or}
use lib.Dec.{leb, ltb, eqb}
use lib.IntN.{pos, neg_ℤ, ◌-ℤ◌, +ℤ_idl}
use borrow.Author.Tests.{lt-ltb, le-ltb, ltb-true, leb-true, ne_eqb, eq-eqb, eqb-true, eqb-false}
use mir.Syntax.{w32}
use mir.Val.{SFits, to_z, of_z}
use mir.Facts.{to_z-of_z}
use Rattle.words.proofs.WordLaws.{true_T}
use Rattle.calls.specs.declared.event.Event.{Event}
use Rattle.calls.specs.declared.event.Event.TheVariants.{HostByte, IdleMark, AckWaitOver, Poll, BusValue, TransmissionOutcome}
use Rattle.baos.specs.declared.bus.Outcome.{Outcome}
use Rattle.baos.specs.declared.bus.Outcome.TheVariants.{Sent, Failed, InProgress}
use Rattle.calls.specs.Reply.{Reply, Accepted, sent_count}
use Rattle.baos.specs.Bus.{status_of}
use Rattle.calls.specs.Event.{numbers_of}
use Rattle.calls.specs.Numbers.{is_event, outcome_numbered, event_numbered, given}

-- ---- whether the numbers name an event, as the code tests it
module _ (e o : ℕ) where
  pub is_sixth : e ≡ 6 → is_event e o ≡ ltb o 3
  unfolding is_event
  is_sixth h = simp (eq-eqb e 6 h)

  pub is_none : e ≢ 6 → e < 1 → is_event e o ≡ false
  unfolding is_event
  is_none h l = simp (ne_eqb e 6 h, le-ltb 0 e (omega (arith, l)))

  pub is_other : e ≢ 6 → 1 ≤ e → is_event e o ≡ ltb e 6
  unfolding is_event
  is_other h l = simp (ne_eqb e 6 h, lt-ltb 0 e (omega (arith, l)))

-- ---- the event of each number
module _ (b id o : ℕ) where
  pub first : (e : ℕ) → e ≡ 1 → event_numbered e b id o ≡ HostByte b
  unfolding event_numbered
  first e h = rw h refl

  pub second : (e : ℕ) → e ≡ 2 → event_numbered e b id o ≡ IdleMark
  unfolding event_numbered
  second e h = rw h refl

  pub third : (e : ℕ) → e ≡ 3 → event_numbered e b id o ≡ AckWaitOver
  unfolding event_numbered
  third e h = rw h refl

  pub fourth : (e : ℕ) → e ≡ 4 → event_numbered e b id o ≡ Poll
  unfolding event_numbered
  fourth e h = rw h refl

  pub fifth : (e : ℕ) → e ≡ 5 → event_numbered e b id o ≡ BusValue id
  unfolding event_numbered
  fifth e h = rw h refl

  pub sixth : (e : ℕ) → e ≢ 1 → e ≢ 2 → e ≢ 3 → e ≢ 4 → e ≢ 5 → event_numbered e b id o ≡ TransmissionOutcome id (outcome_numbered o)
  unfolding event_numbered
  sixth e n₁ n₂ n₃ n₄ n₅ = simp (ne_eqb e 1 n₁, ne_eqb e 2 n₂, ne_eqb e 3 n₃, ne_eqb e 4 n₄, ne_eqb e 5 n₅)

pub last_outcome : (n : ℕ) → n ≢ 0 → n ≢ 1 → outcome_numbered n ≡ InProgress
unfolding outcome_numbered
last_outcome n n₀ n₁ = simp (ne_eqb n 0 n₀, ne_eqb n 1 n₁)

-- ---- minus a number, in 32 bits
minus_small : (n : ℕ) → n < 2 ^ 31 → SFits w32 (neg_ℤ (pos n))
minus_small zero l = record { sfits = l }
minus_small (suc n) l = record { sfits = omega (arith, l) }

module _ (n : ℕ) (l : n < 2 ^ 31) where
  as_read : to_z w32 n ≡ pos n
  as_read = simp (lt-ltb n (2 ^ 31) l)

  minus : pos 0 -ℤ to_z w32 n ≡ neg_ℤ (pos n)
  minus = +ℤ_idl (neg_ℤ (to_z w32 n)) ∙ ap neg_ℤ as_read

  pub fits_minus : SFits w32 (pos 0 -ℤ to_z w32 n)
  fits_minus = subst (SFits w32) (sym minus) (minus_small n l)

  pub is_minus : to_z w32 (of_z w32 (pos 0 -ℤ to_z w32 n)) ≡ neg_ℤ (pos n)
  is_minus = to_z-of_z fits_minus ∙ minus

  pub fits_plus : SFits w32 (pos n)
  fits_plus = record { sfits = l }

  pub is_plus : to_z w32 n ≡ pos n
  is_plus = as_read

pub count_small : (r : Reply) (n : ℕ) → r ≡ Accepted n → sent_count r < 2 ^ 31 → n < 2 ^ 31
unfolding sent_count
count_small r n e l = subst (λ (s : Reply). sent_count s < 2 ^ 31) e l

-- ---- the numbers that are looked at are those of the event, as the paper's list has them; so an event is named by its own numbers and by no others
status_named : (o : ℕ) → ltb o 3 ≡ true → status_of (outcome_numbered o) ≡ o
unfolding status_of outcome_numbered
status_named o h = go (eqb o 0) (eqb o 1) refl refl
  where
    go : (u v : Bool) → eqb o 0 ≡ u → eqb o 1 ≡ v → status_of (outcome_numbered o) ≡ o
    go true v p q = rw (eqb-true o 0 p) refl
    go false true p q = rw (eqb-true o 1 q) refl
    go false false p q = let two : o ≡ 2 = omega (arith, eqb-false o 0 p, eqb-false o 1 q, ltb-true o 3 h) in rw two refl

none_between : (e : ℕ) → e ≢ 1 → e ≢ 2 → e ≢ 3 → e ≢ 4 → e ≢ 5 → 1 ≤ e → e < 6 → ⊥
none_between e n₁ n₂ n₃ n₄ n₅ l u = omega arith

status_small : (p : Outcome) → status_of p < 3
unfolding status_of
status_small Sent = omega arith
status_small Failed = omega arith
status_small InProgress = omega arith

is_six : (e o : ℕ) → is_event e o ≡ true → e ≢ 1 → e ≢ 2 → e ≢ 3 → e ≢ 4 → e ≢ 5 → (e ≡ 6) × (ltb o 3 ≡ true)
unfolding is_event
is_six e o h n₁ n₂ n₃ n₄ n₅ = go (eqb e 6) (leb 1 e) (ltb e 6) refl refl refl
  where
    go : (u v w : Bool) → eqb e 6 ≡ u → leb 1 e ≡ v → ltb e 6 ≡ w → (e ≡ 6) × (ltb o 3 ≡ true)
    go true v w p q r = (eqb-true e 6 p, (simp p at h))
    go false false w p q r = absurd (true_T {b = false} (simp (p, q) at h))
    go false true false p q r = absurd (true_T {b = false} (simp (p, q, r) at h))
    go false true true p q r = absurd (none_between e n₁ n₂ n₃ n₄ n₅ (leb-true 1 e q) (ltb-true e 6 r))

module _ (e b id o : ℕ) where
  pub named : is_event e o ≡ true → numbers_of (event_numbered e b id o) ≡ given e b id o
  unfolding is_event event_numbered given numbers_of
  named h = go (eqb e 1) (eqb e 2) (eqb e 3) (eqb e 4) (eqb e 5) refl refl refl refl refl
    where
      go : (p q r s t : Bool) → eqb e 1 ≡ p → eqb e 2 ≡ q → eqb e 3 ≡ r → eqb e 4 ≡ s → eqb e 5 ≡ t → numbers_of (event_numbered e b id o) ≡ given e b id o
      go true q r s t h₁ h₂ h₃ h₄ h₅ = rw (eqb-true e 1 h₁) refl
      go false true r s t h₁ h₂ h₃ h₄ h₅ = rw (eqb-true e 2 h₂) refl
      go false false true s t h₁ h₂ h₃ h₄ h₅ = rw (eqb-true e 3 h₃) refl
      go false false false true t h₁ h₂ h₃ h₄ h₅ = rw (eqb-true e 4 h₄) refl
      go false false false false true h₁ h₂ h₃ h₄ h₅ = rw (eqb-true e 5 h₅) refl
      go false false false false false h₁ h₂ h₃ h₄ h₅ =
          let six = is_six e o h (eqb-false e 1 h₁) (eqb-false e 2 h₂) (eqb-false e 3 h₃) (eqb-false e 4 h₄) (eqb-false e 5 h₅) in
          rw six.0 (ap (λ (n : ℕ). 6 ∷ id ∷ n ∷ []) (status_named o six.1))

  head : get_or (given e b id o) 0 0 ≡ e
  unfolding given
  head = go (eqb e 1) (eqb e 5) (eqb e 6) refl refl refl
    where
      go : (p q r : Bool) → eqb e 1 ≡ p → eqb e 5 ≡ q → eqb e 6 ≡ r → get_or (given e b id o) 0 0 ≡ e
      go true q r h₁ h₂ h₃ = simp h₁
      go false true r h₁ h₂ h₃ = simp (h₁, h₂)
      go false false true h₁ h₂ h₃ = simp (h₁, h₂, h₃)
      go false false false h₁ h₂ h₃ = simp (h₁, h₂, h₃)

  outcome-given : e ≡ 6 → get_or (given e b id o) 2 0 ≡ o
  unfolding given
  outcome-given six = rw six refl

  -- the numbers of an event name one
  naming : (x : Event) → numbers_of x ≡ given e b id o → is_event e o ≡ true
  unfolding numbers_of is_event
  naming (HostByte c) q = let one : e ≡ 1 = sym head ∙ ap (λ (l : List ℕ). get_or l 0 0) (sym q) in rw one refl
  naming IdleMark q = let two : e ≡ 2 = sym head ∙ ap (λ (l : List ℕ). get_or l 0 0) (sym q) in rw two refl
  naming AckWaitOver q = let three : e ≡ 3 = sym head ∙ ap (λ (l : List ℕ). get_or l 0 0) (sym q) in rw three refl
  naming Poll q = let four : e ≡ 4 = sym head ∙ ap (λ (l : List ℕ). get_or l 0 0) (sym q) in rw four refl
  naming (BusValue i) q = let five : e ≡ 5 = sym head ∙ ap (λ (l : List ℕ). get_or l 0 0) (sym q) in rw five refl
  naming (TransmissionOutcome i p) q =
      let six : e ≡ 6 = sym head ∙ ap (λ (l : List ℕ). get_or l 0 0) (sym q) in
      let status : o ≡ status_of p = sym (outcome-given six) ∙ ap (λ (l : List ℕ). get_or l 2 0) (sym q) in
      rw six (lt-ltb o 3 (omega (arith, status, status_small p)))

-- where the numbers name no event, no event has them
pub not_named : (e b id o : ℕ) → is_event e o ≡ false → (x : Event) → numbers_of x ≢ given e b id o
not_named e b id o n x q = true_T {b = false} (sym n ∙ naming e b id o x q)

-- every event is named by its numbers, and no two have the same
abbrev from_numbers : List ℕ → Event
from_numbers l = event_numbered (get_or l 0 0) (get_or l 1 0) (get_or l 1 0) (get_or l 2 0)

pub told : (x : Event) → from_numbers (numbers_of x) ≡ x
unfolding numbers_of status_of event_numbered outcome_numbered
told (HostByte b) = refl
told IdleMark = refl
told AckWaitOver = refl
told Poll = refl
told (BusValue id) = refl
told (TransmissionOutcome id Sent) = refl
told (TransmissionOutcome id Failed) = refl
told (TransmissionOutcome id InProgress) = refl

pub event_told : (x y : Event) → numbers_of x ≡ numbers_of y → x ≡ y
event_told x y q = sym (told x) ∙ ap from_numbers q ∙ told y

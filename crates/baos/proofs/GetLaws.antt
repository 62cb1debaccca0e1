-- A get's answer by what its checks found: before the first pass, and after it.
use Prim.Native.Nat.{ℕ, ◌+◌}
use mathlib.Core.Bool.{Bool, true, false, ◌||◌}
use mathlib.Core.List.{List}
use mathlib.Core.Path.{◌≡◌, refl, ◌∙◌, ap}
use native.Mathlib.Omega.{arith}
use lib.Dec.{ltb, eqb}
use lib.ListN.{length, get_or}
use Rattle.std.specs.Prelude.{if◌then◌else◌}
use Rattle.words.specs.Words.{is_empty}
use Rattle.baos.specs.Inner.Gather.{filter_asked, size_asked, request_finding}
use Rattle.baos.specs.Get.{AnswerEntry, overflow, room_for_entries, listing, get_finding, getting}
use Rattle.baos.specs.Message.{sub_service, start_of, number_of, coded, Finding, fine, bad, verdict_of, Served, answer_of, after_of, served}
use Rattle.baos.specs.Table.{Tables}

-- the size of such a request, and whether its filter is bad
abbrev pub gets : Bool → List AnswerEntry → Tables → Tables → List ℕ → Served
gets values es t t' m = getting (size_asked values) (ltb 2 (filter_asked values m)) es t t' m

-- a code that is not 0 tells all
pub verdict_bad : (f : Finding) → ((verdict_of f).code ≡ 0 → ⊥) → f ≡ bad (verdict_of f).id (verdict_of f).code
unfolding verdict_of
verdict_bad fine n = absurd (n refl)
verdict_bad (bad i c) n = refl

module _ (values : Bool) (m : List ℕ) (es : List AnswerEntry) where
  -- rows 10 and 6 come first, and then what the entries say
  unfoldable afterwards : Finding → Finding
  afterwards (bad i c) = bad i c
  afterwards fine = if is_empty es then bad (start_of m) 2 else if is_empty (overflow room_for_entries es) then fine else bad (get_or (overflow room_for_entries es) 0 0) 3

  asked_first : get_finding (size_asked values) (ltb 2 (filter_asked values m)) m es ≡ afterwards (request_finding values m)
  unfolding request_finding get_finding afterwards
  asked_first = go (eqb (length m) (size_asked values)) (eqb (number_of m) 0 || ltb 2 (filter_asked values m)) refl refl
    where
      go : (a b : Bool) → eqb (length m) (size_asked values) ≡ a → (eqb (number_of m) 0 || ltb 2 (filter_asked values m)) ≡ b
          → get_finding (size_asked values) (ltb 2 (filter_asked values m)) m es ≡ afterwards (request_finding values m)
      go false b e f = simp e
      go true true e f = simp (e, f)
      go true false e f = simp (e, f)

  fine_where : (verdict_of (request_finding values m)).code ≡ 0 → request_finding values m ≡ fine
  unfolding request_finding verdict_of
  fine_where = go (eqb (length m) (size_asked values)) (eqb (number_of m) 0 || ltb 2 (filter_asked values m)) refl refl
    where
      go : (a b : Bool) → eqb (length m) (size_asked values) ≡ a → (eqb (number_of m) 0 || ltb 2 (filter_asked values m)) ≡ b
          → (verdict_of (request_finding values m)).code ≡ 0 → request_finding values m ≡ fine
      go false b e f q = absurd (omega (arith, simp e at q))
      go true true e f q = absurd (omega (arith, simp (e, f) at q))
      go true false e f q = simp (e, f)

  module _ (t t' : Tables) where
    pub refused_first : ((verdict_of (request_finding values m)).code ≡ 0 → ⊥)
        → gets values es t t' m ≡ record { says = coded m (verdict_of (request_finding values m)).id (verdict_of (request_finding values m)).code; after = t }
    unfolding getting served answer_of after_of afterwards
    refused_first n = ap (λ (f : Finding). served f m (listing (sub_service m + 0x80) (start_of m) es) t t') (asked_first ∙ ap afterwards (verdict_bad (request_finding values m) n))

    pub empty_refused : (verdict_of (request_finding values m)).code ≡ 0 → is_empty es ≡ true → gets values es t t' m ≡ record { says = coded m (start_of m) 2; after = t }
    unfolding getting served answer_of after_of afterwards
    empty_refused z n =
        ap (λ (f : Finding). served f m (listing (sub_service m + 0x80) (start_of m) es) t t') {y = bad (start_of m) 2} (asked_first ∙ ap afterwards (fine_where z) ∙ simp n)

    pub over_refused : (verdict_of (request_finding values m)).code ≡ 0 → is_empty es ≡ false → is_empty (overflow room_for_entries es) ≡ false
        → gets values es t t' m ≡ record { says = coded m (get_or (overflow room_for_entries es) 0 0) 3; after = t }
    unfolding getting served answer_of after_of afterwards
    over_refused z n o =
        ap (λ (f : Finding). served f m (listing (sub_service m + 0x80) (start_of m) es) t t') {y = bad (get_or (overflow room_for_entries es) 0 0) 3}
        (asked_first ∙ ap afterwards (fine_where z) ∙ simp (n, o))

    pub fits_answered : (verdict_of (request_finding values m)).code ≡ 0 → is_empty es ≡ false → is_empty (overflow room_for_entries es) ≡ true
        → gets values es t t' m ≡ record { says = listing (sub_service m + 0x80) (start_of m) es; after = t' }
    unfolding getting served answer_of after_of afterwards
    fits_answered z n o =
        ap (λ (f : Finding). served f m (listing (sub_service m + 0x80) (start_of m) es) t t') {y = fine} (asked_first ∙ ap afterwards (fine_where z) ∙ simp (n, o))

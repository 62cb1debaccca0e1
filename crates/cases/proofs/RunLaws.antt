-- Bytes from the host, one after the other: the loop that feeds them; and what is sent at the last.
use Rattle.std.proofs.Common.{◌≡◌, ℕ, ◌+◌, ◌<◌, ◌≤◌, eqb, Bool, true, false, ◌&&◌, List, [], ◌∷◌, length, get_or, take, drop, sym, refl, ◌∙◌, add-one, arith, drop_of_length-le, drop-cons, ne_eqb}
use mathlib.Core.Bool.{and_assoc, and-true}
use Rattle.std.specs.Prelude.{if◌then◌else◌, Option, Some, None}
use Rattle.std.specs.Option.{option_eq}
use Rattle.words.specs.Words.{is_yes}
use Rattle.calls.specs.declared.event.Event.TheVariants.{HostByte}
use Rattle.cases.specs.Bench.{Bench}
use Rattle.cases.specs.Run.{happened, count_sent, quiet, Sends, heard, only_last, last_sound, stand_after}
use Rattle.cases.specs.Same.{Decides}
use Rattle.cases.specs.View.{place_of}
use Rattle.cases.proofs.SameLaws.{refuted, compared, left_to}

-- ---- what the last call sends
pub sends_decided : (b : Bench) (s w : List ℕ) {r : Bool} → count_sent b.reply ≤ 262 → s ≡ take (count_sent b.reply) b.out → Decides r (s ≡ w) → Decides r (Sends b w)
sends_decided b s w l e d = left_to d (λ v. record { within = l; bytes = sym e ∙ v }) (λ q. e ∙ q.bytes)

-- ---- the loop: what is left of the bytes does the rest

-- whether none but the last draws anything: p where no byte is left, and q of those before
unfoldable pub ahead : List ℕ → Bool → Bool → Bench → Bool
ahead [] p q b = p
ahead (x ∷ xs) p q b = q && only_last (x ∷ xs) b

ahead_next : (x : ℕ) (xs : List ℕ) (p q : Bool) (b : Bench) → ahead (x ∷ xs) p q b ≡ ahead xs q (q && quiet (happened (HostByte x) b)) (happened (HostByte x) b)
unfolding ahead only_last
ahead_next x [] p q b = and-true q
ahead_next x (y ∷ ys) p q b = sym (and_assoc q (quiet (happened (HostByte x) b)) (only_last (y ∷ ys) (happened (HostByte x) b)))

pub record Feeding (xs : List ℕ) (b₀ b : Bench) (p q : Bool) (k i : ℕ) : Type 0 where
  pub within : i ≤ length xs
  pub bench : heard (drop i xs) b ≡ heard xs b₀
  pub quiet : ahead (drop i xs) p q b ≡ only_last xs b₀
  pub place : last_sound (drop i xs) i k b ≡ last_sound xs 0 1000 b₀

pub feeding_begins : (xs : List ℕ) (b : Bench) → Feeding xs b b false true 1000 0
unfolding ahead only_last
feeding_begins [] b = record { within = omega arith; bench = refl; quiet = refl; place = refl }
feeding_begins (x ∷ xs) b = record { within = omega arith; bench = refl; quiet = refl; place = refl }

module _ (xs : List ℕ) (i : ℕ) (b b' : Bench) (l : i < length xs) (e : b' ≡ happened (HostByte (get_or xs i 0)) b) where
  next : drop i xs ≡ get_or xs i 0 ∷ drop (i + 1) xs
  next = rw add-one (drop-cons xs i 0 l)

  pub feeding_goes : (b₀ : Bench) (p q q' : Bool) (k k' : ℕ) → q' ≡ (q && quiet b') → k' ≡ (if is_yes b.link.dropping then k else i) → Feeding xs b₀ b p q k i → Feeding xs b₀ b' q q' k' (i + 1)
  unfolding heard last_sound
  feeding_goes b₀ p q q' k k' eq ek f =
      let h : heard (drop i xs) b ≡ heard (drop (i + 1) xs) b' = rw (next, e) refl in
      let g : ahead (drop i xs) p q b ≡ ahead (drop (i + 1) xs) q q' b' = rw (next, eq, e) (ahead_next (get_or xs i 0) (drop (i + 1) xs) p q b) in
      let s : last_sound (drop i xs) i k b ≡ last_sound (drop (i + 1) xs) (i + 1) k' b' = rw (next, ek, e, add-one i) refl in
      record { within = omega arith; bench = sym h ∙ f.bench; quiet = sym g ∙ f.quiet; place = sym s ∙ f.place }

-- what the two branches of a turn leave
pub sound_here : (d i k k' : ℕ) → (d ≡ 1 → ⊥) → k' ≡ i → k' ≡ (if is_yes d then k else i)
sound_here d i k k' h f = rw (ne_eqb _ _ h) f

pub dropped_here : (d i k k' : ℕ) → d ≡ 1 → k' ≡ k → k' ≡ (if is_yes d then k else i)
dropped_here d i k k' h f = rw h f

-- the place that is held is the one asked for, which is below 256
pub place_decided : (p : Option ℕ) (k a : ℕ) {r : Bool} → k ≡ a → a < 256 → r ≡ option_eq eqb p (Some k) → Decides r (place_of p ≡ a)
place_decided None k a e l q = rw q (refuted (λ h. omega (arith, h, l)))
place_decided (Some n) k a e l q = rw (q, e) (compared n a)

pub quiet_told : (b : Bench) {r : Bool} → r ≡ quiet b → Decides r (quiet b ≡ true)
quiet_told b e = ((λ x. sym e ∙ x), (λ y. e ∙ y))

pub feeding_ends : (xs : List ℕ) (b₀ b : Bench) (p q : Bool) (k i : ℕ) → length xs ≤ i → Feeding xs b₀ b p q k i → record { bench = b; quiet = p; place = k } ≡ stand_after xs b₀
unfolding stand_after heard ahead last_sound
feeding_ends xs b₀ b p q k i l f =
    let d : drop i xs ≡ [] = drop_of_length-le xs l in
    rw (sym f.bench, sym f.quiet, sym f.place, d) refl

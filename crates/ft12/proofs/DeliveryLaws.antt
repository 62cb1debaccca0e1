-- A request's frame with one byte changed or lost, and an idle mark behind it: it draws nothing, or it acts as an acknowledgement. (Demand 3: "each
-- other delivery has exactly one byte changed or lost; each is followed by an idle mark".)
use Rattle.std.proofs.Common.{ℕ, zero, suc, ◌+◌, ◌-◌, ◌≤◌, ◌<◌, ◌≡◌, refl, sym, ◌∙◌, ap, ◌≢◌, ◌⊎◌, inl, inr, Bool, true, false, not, List, [], ◌∷◌, ◌++◌, append_assoc, arith, zero-add, suc-add, not-suc-le-zero, le_of_suc-le-suc, length, get_or, take, drop, set, replicate, length-append, length-set, length-drop, get_or-append-add, length-take-le, T, ne_eqb}
use native.Mathlib.Decide.{ℕ_discrete, dec_lt}
use lib.ListN.{get_or-append}
use lib.Seq.{set-append_left, take-append-le, drop-append-le, append_snoc}
use Rattle.ft12.specs.declared.receiver.Judgement.TheVariants.{Damage}
use Rattle.std.specs.Prelude.{if◌then◌else◌}
use Rattle.words.specs.Words.{is_empty, are_bytes}
use Rattle.ft12.specs.Frame.{acknowledgement, total, checksum, data_frame, message_of}
use Rattle.ft12.specs.Receiver.{only, judged_first, judged_data, judged, gathers, is_beginning}
use Rattle.ft12.specs.Record.{Line, host_control}
use Rattle.ft12.specs.Rules.{acknowledged, message, at_start, start_dropping, gathering, cleared, expecting, case_of_acknowledgement, case_of_data, case_of, heard_at, on_heard, on_host_byte}
use Rattle.ft12.specs.Delivery.{Delivery, sound, changed, lost, is_sound, arrives, Possible, Hearing, up_first, hearing, delivered}
use Rattle.words.proofs.WordLaws.{true_T, bytes_at, byte_first}
use Rattle.ft12.proofs.ReceiverLaws.{headed, judged_start, judged_fixed_2, judged_fixed_3, judged_data_1, judged_data_2, judged_data_3, judged-sum, judged_end, beginning_prefix}
use Rattle.ft12.proofs.FrameLaws.{frame_length, head_gathers, body_beginning, summed_beginning, fixed_beginning}
use Rattle.ft12.proofs.HearingLaws.{Fails, stops, breaks, failing_nothing, Echoes, once, again, echoes_acknowledge}

-- ---- a byte that breaks the forms, by its place
only_other : (x b : ℕ) → b ≢ x → only x b ≡ Damage
only_other x b r = simp (ne_eqb b x r)

wrong_start : (x : ℕ) (q : List ℕ) → x ≢ 0xE5 → x ≢ 0x10 → x ≢ 0x68 → Fails (x ∷ q)
wrong_start x q a b d = breaks [] x q refl (unfold is_beginning gathers in tt) (judged_start x ∙ (unfold judged_first in simp (ne_eqb x 0xE5 a, ne_eqb x 0x10 b, ne_eqb x 0x68 d)))

wrong_fixed_2 : (c x : ℕ) (q : List ℕ) → x ≢ c → Fails (0x10 ∷ c ∷ x ∷ q)
wrong_fixed_2 c x q r = breaks (0x10 ∷ c ∷ []) x q refl (beginning_prefix (0x10 ∷ c ∷ []) (c ∷ []) (fixed_beginning c)) (judged_fixed_2 c x ∙ only_other c x r)

wrong_fixed_3 : (c x : ℕ) (q : List ℕ) → x ≢ 0x16 → Fails (0x10 ∷ c ∷ c ∷ x ∷ q)
wrong_fixed_3 c x q r = breaks (0x10 ∷ c ∷ c ∷ []) x q refl (fixed_beginning c) (judged_fixed_3 c x ∙ simp (ne_eqb x 0x16 r))

wrong_zero : (q : List ℕ) → Fails (0x68 ∷ 0 ∷ q)
wrong_zero q = breaks (0x68 ∷ []) 0 q refl (beginning_prefix (0x68 ∷ []) (1 ∷ 1 ∷ 0x68 ∷ []) (head_gathers 1 (omega arith) (omega arith))) (judged_data_1 0)

module _ (n : ℕ) (one : 1 ≤ n) (small : n ≤ 255) where
  wrong_2 : (x : ℕ) (q : List ℕ) → x ≢ n → Fails (0x68 ∷ n ∷ x ∷ q)
  wrong_2 x q r = breaks (0x68 ∷ n ∷ []) x q refl (beginning_prefix (0x68 ∷ n ∷ []) (n ∷ 0x68 ∷ []) (head_gathers n one small)) (judged_data_2 n x ∙ only_other n x r)

  wrong_3 : (x : ℕ) (q : List ℕ) → x ≢ 0x68 → Fails (0x68 ∷ n ∷ n ∷ x ∷ q)
  wrong_3 x q r = breaks (0x68 ∷ n ∷ n ∷ []) x q refl (beginning_prefix (0x68 ∷ n ∷ n ∷ []) (0x68 ∷ []) (head_gathers n one small)) (judged_data_3 n x ∙ only_other 0x68 x r)

  module _ (b : List ℕ) (long : length b ≡ n) where
    wrong_sum : (x : ℕ) (q : List ℕ) → x ≢ checksum b → Fails (headed n (b ++ x ∷ q))
    wrong_sum x q r = breaks (headed n b) x q refl (body_beginning n b one small (omega arith)) (judged-sum n b x long ∙ only_other (checksum b) x r)

    wrong_end : (x : ℕ) → x ≢ 0x16 → Fails (headed n (b ++ checksum b ∷ x ∷ []))
    wrong_end x r =
        breaks (headed n (b ++ checksum b ∷ [])) x [] (rw (append_snoc b (checksum b) (x ∷ []))) (summed_beginning n b one small long)
        (judged_end n (b ++ checksum b ∷ []) x (omega (arith, length-append b (checksum b ∷ []))) ∙ simp (ne_eqb x 0x16 r))

    -- the bytes that the length counts, and one byte more: the checksum or not, it is the last
    one_short : (x : ℕ) → Fails (headed n (b ++ x ∷ []))
    one_short x = go (ℕ_discrete x (checksum b))
      where
        go : Dec (x ≡ checksum b) → Fails (headed n (b ++ x ∷ []))
        go (yes e) = rw e (stops (summed_beginning n b one small long))
        go (no a) = wrong_sum x [] a

-- ---- damage to the head of a frame; n is its length byte, c its control byte
first_changed : (n b : ℕ) (q : List ℕ) → b ≢ 0xE5 → b ≢ 0x68 → Fails (b ∷ n ∷ n ∷ 0x68 ∷ q)
first_changed n b q a r = go (ℕ_discrete b 0x10)
  where
    go : Dec (b ≡ 0x10) → Fails (b ∷ n ∷ n ∷ 0x68 ∷ q)
    go (yes e) = rw e (wrong_fixed_3 n 0x68 q (λ h. omega (arith, h)))
    go (no d) = wrong_start b _ a d r

length_changed : (n b : ℕ) (q : List ℕ) → b ≤ 255 → b ≢ n → Fails (0x68 ∷ b ∷ n ∷ q)
length_changed n b q h r = go (ℕ_discrete b 0)
  where
    go : Dec (b ≡ 0) → Fails (0x68 ∷ b ∷ n ∷ q)
    go (yes e) = rw e (wrong_zero (n ∷ q))
    go (no a) = wrong_2 b (omega arith) h n q (λ e. r (sym e))

module _ (c : ℕ) (not68 : c ≢ 0x68) where
  -- the first byte lost
  headless : (n : ℕ) (q : List ℕ) → n ≢ 0xE5 → Fails (n ∷ n ∷ 0x68 ∷ c ∷ q)
  headless n q a = go (ℕ_discrete n 0x10) (ℕ_discrete n 0x68)
    where
      go : Dec (n ≡ 0x10) → Dec (n ≡ 0x68) → Fails (n ∷ n ∷ 0x68 ∷ c ∷ q)
      go (yes e) d = rw e (wrong_fixed_2 0x10 0x68 (c ∷ q) (λ h. omega (arith, h)))
      go (no b) (yes e) = rw e (wrong_3 0x68 (omega arith) (omega arith) c q not68)
      go (no b) (no d) = wrong_start n _ a b d

  -- one of the two length bytes lost
  length_lost : (n : ℕ) (q : List ℕ) → 1 ≤ n → n ≤ 255 → Fails (0x68 ∷ n ∷ 0x68 ∷ c ∷ q)
  length_lost n q h g = go (ℕ_discrete n 0x68)
    where
      go : Dec (n ≡ 0x68) → Fails (0x68 ∷ n ∷ 0x68 ∷ c ∷ q)
      go (yes e) = rw e (wrong_3 0x68 (omega arith) (omega arith) c q not68)
      go (no a) = wrong_2 n h g 0x68 (c ∷ q) (λ e. a (sym e))

-- ---- sums: one byte changed changes the checksum
total-set : (s : List ℕ) (i b : ℕ) → i < length s → total (set s i b) + get_or s i 0 ≡ total s + b
unfolding total
total-set [] i b h = absurd (not-suc-le-zero h)
total-set (x ∷ s) zero b h = omega arith
total-set (x ∷ s) (suc i) b h = omega (arith, total-set s i b (le_of_suc-le-suc h))

checksum-set : (s : List ℕ) (i b : ℕ) → i < length s → T (are_bytes s) → b < 256 → b ≢ get_or s i 0 → checksum s ≢ checksum (set s i b)
unfolding checksum
checksum-set s i b h t q r = λ e. r (omega (arith, e, total-set s i b h, bytes_at s i t))

-- ---- a list with one element changed or lost, in its front or its rest
set_right : (p t : List ℕ) (i b : ℕ) → set (p ++ t) (length p + i) b ≡ p ++ set t i b
set_right [] t i b = rw (zero-add i)
set_right (x ∷ p) t i b = rw (suc-add (length p) i) (ap {B = List ℕ} (λ (s : List ℕ). x ∷ s) (set_right p t i b))

abbrev without : ℕ → List ℕ → List ℕ
without k s = take k s ++ drop (suc k) s

without_left : (s t : List ℕ) (k : ℕ) → k < length s → without k (s ++ t) ≡ without k s ++ t
without_left s t k h = rw (take-append-le k s t (omega arith), drop-append-le (suc k) s t h) (sym (append_assoc (take k s) (drop (suc k) s) t))

without_right : (p t : List ℕ) (i : ℕ) → without (length p + i) (p ++ t) ≡ p ++ without i t
without_right [] t i = rw (zero-add i)
without_right (x ∷ p) t i = rw (suc-add (length p) i) (ap {B = List ℕ} (λ (s : List ℕ). x ∷ s) (without_right p t i))

without_length : (s : List ℕ) (k : ℕ) → k < length s → length (without k s) + 1 ≡ length s
without_length s k h = omega (arith, length-append (take k s) (drop (suc k) s), length-take-le k s (omega arith), length-drop (suc k) s)

-- ---- damage behind the head: b is control and data
module _ (n : ℕ) (one : 1 ≤ n) (small : n ≤ 255) (b : List ℕ) (long : length b ≡ n) where
  abbrev trailer : List ℕ
  trailer = checksum b ∷ 0x16 ∷ []

  trailer_changed : (i y : ℕ) → i < 2 → y ≢ get_or trailer i 0 → Fails (headed n (b ++ set trailer i y))
  trailer_changed zero y h r = wrong_sum n one small b long y (0x16 ∷ []) r
  trailer_changed (suc zero) y h r = wrong_end n one small b long y r
  trailer_changed (suc (suc i)) y h r = absurd (omega arith)

  trailer_lost : (i : ℕ) → i < 2 → Fails (headed n (b ++ without i trailer))
  trailer_lost zero h = one_short n one small b long 0x16
  trailer_lost (suc zero) h = one_short n one small b long (checksum b)
  trailer_lost (suc (suc i)) h = absurd (omega arith)

  later_changed : (j y : ℕ) → T (are_bytes b) → j < n + 2 → y < 256 → y ≢ get_or (b ++ trailer) j 0 → Fails (headed n (set (b ++ trailer) j y))
  later_changed j y t h g r = go (dec_lt j n)
    where
      go : Dec (j < n) → Fails (headed n (set (b ++ trailer) j y))
      go (yes k) =
          rw (set-append_left b trailer j y (omega arith))
          (wrong_sum n one small (set b j y) (length-set b j y ∙ long) (checksum b) (0x16 ∷ [])
          (checksum-set b j y (omega arith) t g (rw (get_or-append b trailer 0 j (omega arith)) at r)))
      go (no a) =
          let k : j ≡ length b + (j - n) = omega arith in
          rw (k, set_right b trailer (j - n) y) (trailer_changed (j - n) y (omega arith) (rw (k, get_or-append-add b trailer (j - n) 0) at r))

  later_lost : (j : ℕ) → j < n + 2 → Fails (headed n (without j (b ++ trailer)))
  later_lost j h = go (dec_lt j n)
    where
      go : Dec (j < n) → Fails (headed n (without j (b ++ trailer)))
      go (yes k) =
          rw (without_left b trailer j (omega arith), ← append_snoc (without j b) (checksum b) (0x16 ∷ []))
          (one_short n one small (without j b ++ checksum b ∷ []) (omega (arith, length-append (without j b) (checksum b ∷ []), without_length b j (omega arith))) 0x16)
      go (no a) = let k : j ≡ length b + (j - n) = omega arith in rw (k, without_right b trailer (j - n)) (trailer_lost (j - n) (omega arith))

-- ---- a host's data frame, one byte changed or lost
module _ (c : ℕ) (host : (c ≡ 0x73) ⊎ (c ≡ 0x53)) where
  is_not : (x : ℕ) → 0x73 ≢ x → 0x53 ≢ x → c ≢ x
  is_not x p q = go host
    where
      go : (c ≡ 0x73) ⊎ (c ≡ 0x53) → c ≢ x
      go (inl e) = rw e p
      go (inr e) = rw e q

  within : (1 ≤ c) × (c < 256)
  within = go host
    where
      go : (c ≡ 0x73) ⊎ (c ≡ 0x53) → (1 ≤ c) × (c < 256)
      go (inl e) = (omega arith, omega arith)
      go (inr e) = (omega arith, omega arith)

  not68 : c ≢ 0x68
  not68 = is_not 0x68 (λ h. omega (arith, h)) (λ h. omega (arith, h))

  module _ (m : List ℕ) (short : length m ≤ 254) where
    abbrev n : ℕ
    n = suc (length m)

    behind_head : (k : ℕ) → suc (suc (suc (suc k))) < length (data_frame c m) → k < n + 2
    behind_head k h = omega (arith, frame_length c m)

    -- no E5 comes first: no whole frame is heard
    fails : (d : Delivery) → T (are_bytes m) → is_sound d ≡ false → Possible (data_frame c m) d → get_or (arrives (data_frame c m) d) 0 0 ≢ 0xE5 → Fails (arrives (data_frame c m) d)
    unfolding data_frame arrives is_sound
    fails sound t u p r = absurd (true_T (sym u))
    fails (changed zero b) t u p r = first_changed n b _ r p.2
    fails (changed (suc zero) b) t u p r = length_changed n b _ (omega (arith, p.1)) p.2
    fails (changed (suc (suc zero)) b) t u p r = wrong_2 n (omega arith) (omega arith) b _ p.2
    fails (changed (suc (suc (suc zero))) b) t u p r = wrong_3 n (omega arith) (omega arith) b _ p.2
    fails (changed (suc (suc (suc (suc k)))) b) t u p r =
        later_changed n (omega arith) (omega arith) (c ∷ m) refl k b (byte_first c m within.1 t) (behind_head k p.0) p.1 p.2
    fails (lost zero) t u p r = headless c not68 n _ r
    fails (lost (suc zero)) t u p r = length_lost c not68 n _ (omega arith) (omega arith)
    fails (lost (suc (suc zero))) t u p r = length_lost c not68 n _ (omega arith) (omega arith)
    fails (lost (suc (suc (suc zero)))) t u p r = wrong_3 n (omega arith) (omega arith) c _ not68
    fails (lost (suc (suc (suc (suc k))))) t u p r = later_lost n (omega arith) (omega arith) (c ∷ m) refl k (behind_head k p)

  -- the second 68, the control byte and F0, heard from a frame start: 68 and a length that is not repeated
  second_head : (q : List ℕ) → Fails (0x68 ∷ c ∷ 0xF0 ∷ q)
  second_head q = wrong_2 c within.0 (omega (arith, within.1)) 0xF0 q (λ h. is_not 0xF0 (λ e. omega (arith, e)) (λ e. omega (arith, e)) (sym h))

  -- "A damaged frame may begin with E5: its first byte 68 turned into E5, or was lost before a length of E5." Here n is the length.
  turned : (n : ℕ) (q : List ℕ) → Echoes (0xE5 ∷ n ∷ n ∷ 0x68 ∷ c ∷ 0xF0 ∷ q)
  turned n q = go (ℕ_discrete n 0xE5)
    where
      go : Dec (n ≡ 0xE5) → Echoes (0xE5 ∷ n ∷ n ∷ 0x68 ∷ c ∷ 0xF0 ∷ q)
      go (yes e) = rw e (again (again (once (second_head q))))
      go (no a) = once (headless c not68 n (0xF0 ∷ q) a)

  echoes : (m : List ℕ) (d : Delivery) → get_or m 0 0 ≡ 0xF0 → get_or (arrives (data_frame c m) d) 0 0 ≡ 0xE5 → Echoes (arrives (data_frame c m) d)
  unfolding data_frame arrives
  echoes [] d f e = absurd (omega (arith, f))
  echoes (x ∷ r) sound f e = absurd (omega (arith, e))
  echoes (x ∷ r) (changed zero b) f e = rw (f, e) (turned (suc (suc (length r))) _)
  echoes (x ∷ r) (changed (suc k) b) f e = absurd (omega (arith, e))
  echoes (x ∷ r) (lost zero) f e = rw (f, e) (again (once (second_head _)))
  echoes (x ∷ r) (lost (suc k)) f e = absurd (omega (arith, e))

  -- "a damaged one draws none": nothing is sent, nothing is handed up, and the line is as it was
  pub damaged_nothing : (m : List ℕ) (d : Delivery) (l : Line) → length m ≤ 254 → T (are_bytes m) → is_sound d ≡ false → Possible (data_frame c m) d
      → get_or (arrives (data_frame c m) d) 0 0 ≢ 0xE5 → l ≡ at_start l → delivered (arrives (data_frame c m) d) l ≡ record { sent = []; ups = []; line = l }
  damaged_nothing m d l h t u p r s = failing_nothing (arrives (data_frame c m) d) l (fails m h d t u p r) s

  -- "It can then act as the acknowledgement of an outstanding frame and, if its message begins F0, does no more."
  pub damaged_acknowledges : (m : List ℕ) (d : Delivery) (l : Line) → get_or m 0 0 ≡ 0xF0 → get_or (arrives (data_frame c m) d) 0 0 ≡ 0xE5 → l ≡ at_start l
      → delivered (arrives (data_frame c m) d) l ≡
      record {
        sent = [];
        ups = if is_empty l.outstanding then [] else acknowledged ∷ [];
        line = if is_empty l.outstanding then l else cleared (not l.send) l;
      }
  damaged_acknowledges m d l f e s = echoes_acknowledge l (echoes m d f e) s

-- the control bytes of the host are such
pub host_control_lem : (odd : Bool) → (host_control odd ≡ 0x73) ⊎ (host_control odd ≡ 0x53)
unfolding host_control
host_control_lem true = inl refl
host_control_lem false = inr refl

-- ---- "if its message begins F0": one that does not may spell a whole frame behind E5 E5
-- 68 and the control byte 73 stand before this message, and it goes on 73 68, 73 (hex) bytes, their checksum, 16. It has 228 bytes: the length is E5.
unfoldable pub spelling : List ℕ
spelling = 0x73 ∷ 0x68 ∷ 0x73 ∷ replicate 114 0 ++ 0x73 ∷ 0x16 ∷ replicate 109 0

unfoldable pub at_rest : Line
at_rest = record { gathered = []; dropping = false; expected = true; send = true; outstanding = []; resends = 0 }

-- what comes of it with its first byte lost
unfoldable pub spelt : Hearing
spelt = delivered (arrives (data_frame 0x73 spelling) (lost 0)) at_rest

-- E5 comes first, and yet an acknowledgement is sent and a message is handed up
pub other_message : (length spelling ≡ 228) × T (are_bytes spelling) × (at_rest ≡ at_start at_rest) × Possible (data_frame 0x73 spelling) (lost 0)
    × (get_or (arrives (data_frame 0x73 spelling) (lost 0)) 0 0 ≡ 0xE5) × (spelt.sent ≡ acknowledgement) × (spelt.ups ≡ message (replicate 114 0) ∷ [])
unfolding spelling at_rest spelt arrives data_frame checksum total delivered hearing up_first on_host_byte heard_at case_of case_of_acknowledgement case_of_data on_heard judged judged_first judged_data at_start start_dropping gathering cleared expecting host_control message_of are_bytes
other_message = (refl, tt, refl, omega arith, refl, refl, refl)

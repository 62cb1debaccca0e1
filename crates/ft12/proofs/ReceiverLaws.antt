-- The receiver: one law for each answer, and where a beginning stands in its frame.
use Rattle.std.proofs.Common.{ℕ, suc, ◌+◌, ◌≤◌, ◌<◌, ◌≡◌, refl, sym, ap, Bool, true, false, ◌&&◌, List, [], ◌∷◌, ◌++◌, append-nil, arith, length, get_or, length-append, T, leb, eqb, lt-ltb, le-ltb, eq-eqb, ne_eqb, eqb-true, leb-true}
use mathlib.Core.Bool.{and_assoc}
use native.Mathlib.Decide.{ℕ_discrete}
use lib.Seq.{append_snoc}
use Rattle.std.specs.Prelude.{if◌then◌else◌}
use Rattle.ft12.specs.Frame.{checksum}
use Rattle.ft12.specs.Receiver.{only, judged_first, judged_fixed, judged_data, judged, is_more, gathers, is_beginning}
use Rattle.ft12.specs.declared.receiver.Judgement.{Judgement}
use Rattle.ft12.specs.declared.receiver.Judgement.TheVariants.{More, Damage, Fixed, Data}
use Rattle.words.proofs.WordLaws.{left, right, both, T_true, true_T}

-- the beginning of a data frame: its head, and the bytes b behind it
abbrev pub headed : ℕ → List ℕ → List ℕ
headed n b = 0x68 ∷ n ∷ n ∷ 0x68 ∷ b

-- ---- one law for each answer
pub judged_start : (x : ℕ) → judged [] x ≡ judged_first x
unfolding judged
judged_start x = refl

pub judged_fixed_1 : (x : ℕ) → judged (0x10 ∷ []) x ≡ More
unfolding judged judged_fixed
judged_fixed_1 x = refl

pub judged_fixed_2 : (c x : ℕ) → judged (0x10 ∷ c ∷ []) x ≡ only c x
unfolding judged judged_fixed
judged_fixed_2 c x = refl

pub judged_fixed_3 : (c x : ℕ) → judged (0x10 ∷ c ∷ c ∷ []) x ≡ (if eqb x 0x16 then Fixed c else Damage)
unfolding judged judged_fixed
judged_fixed_3 c x = refl

pub judged_data_1 : (x : ℕ) → judged (0x68 ∷ []) x ≡ (if leb 1 x && leb x 255 then More else Damage)
unfolding judged judged_data
judged_data_1 x = refl

pub judged_data_2 : (n x : ℕ) → judged (0x68 ∷ n ∷ []) x ≡ only n x
unfolding judged judged_data
judged_data_2 n x = refl

pub judged_data_3 : (n x : ℕ) → judged (0x68 ∷ n ∷ n ∷ []) x ≡ only 0x68 x
unfolding judged judged_data
judged_data_3 n x = refl

-- a byte of control or data
pub judged_body : (n : ℕ) (b : List ℕ) (x : ℕ) → length b < n → judged (headed n b) x ≡ More
unfolding judged judged_data
judged_body n b x h =
    let k : ℕ = suc (suc (suc (suc (length b)))) in
    simp (ne_eqb k 0 (omega arith), ne_eqb k 1 (omega arith), ne_eqb k 2 (omega arith), ne_eqb k 3 (omega arith), lt-ltb k (4 + n) (omega arith))

-- the checksum's place
pub judged-sum : (n : ℕ) (b : List ℕ) (x : ℕ) → length b ≡ n → judged (headed n b) x ≡ only (checksum b) x
unfolding judged judged_data
judged-sum n b x h =
    let k : ℕ = suc (suc (suc (suc (length b)))) in
    simp (ne_eqb k 0 (omega arith), ne_eqb k 1 (omega arith), ne_eqb k 2 (omega arith), ne_eqb k 3 (omega arith), le-ltb k (4 + n) (omega arith), eq-eqb k (4 + n) (omega arith))

-- the last byte's place
pub judged_end : (n : ℕ) (b : List ℕ) (x : ℕ) → length b ≡ n + 1 → judged (headed n b) x ≡ (if eqb x 0x16 then Data (get_or b 0 0) n else Damage)
unfolding judged judged_data
judged_end n b x h =
    let k : ℕ = suc (suc (suc (suc (length b)))) in
    simp (ne_eqb k 0 (omega arith), ne_eqb k 1 (omega arith), ne_eqb k 2 (omega arith), ne_eqb k 3 (omega arith), le-ltb k (4 + n) (omega arith), ne_eqb k (4 + n) (λ e. omega (arith, e)))

-- ---- where a beginning stands in its frame
pub data Stands (g : List ℕ) : Type 0 where
  start : g ≡ [] → Stands g
  fixed_1 : g ≡ 0x10 ∷ [] → Stands g
  fixed_2 : (c : ℕ) → g ≡ 0x10 ∷ c ∷ [] → Stands g
  fixed_3 : (c : ℕ) → g ≡ 0x10 ∷ c ∷ c ∷ [] → Stands g
  data_1 : g ≡ 0x68 ∷ [] → Stands g
  data_2 : (n : ℕ) → 1 ≤ n → n ≤ 255 → g ≡ 0x68 ∷ n ∷ [] → Stands g
  data_3 : (n : ℕ) → 1 ≤ n → n ≤ 255 → g ≡ 0x68 ∷ n ∷ n ∷ [] → Stands g
  body : (n : ℕ) (b : List ℕ) → 1 ≤ n → n ≤ 255 → length b ≤ n → g ≡ headed n b → Stands g
  summed : (n : ℕ) (b : List ℕ) → 1 ≤ n → n ≤ 255 → length b ≡ n → g ≡ headed n (b ++ checksum b ∷ []) → Stands g

-- where only x may stand, a byte that asks for more is x
only_more : (x b : ℕ) → T (is_more (only x b)) → b ≡ x
unfolding is_more
only_more x b t = go (eqb b x) refl
  where
    go : (u : Bool) → eqb b x ≡ u → b ≡ x
    go true e = eqb-true b x e
    go false e = absurd (simp e at t)

length_more : (x : ℕ) → T (is_more (if leb 1 x && leb x 255 then More else Damage)) → T (leb 1 x && leb x 255)
unfolding is_more
length_more x t = go (leb 1 x && leb x 255) refl
  where
    go : (u : Bool) → (leb 1 x && leb x 255) ≡ u → T (leb 1 x && leb x 255)
    go true e = true_T e
    go false e = absurd (simp e at t)

end_more : (x : ℕ) (j : Judgement) → is_more j ≡ false → T (is_more (if eqb x 0x16 then j else Damage)) → ⊥
unfolding is_more
end_more x j h t = go (eqb x 0x16) refl
  where
    go : (u : Bool) → eqb x 0x16 ≡ u → ⊥
    go true e = simp (e, h) at t
    go false e = simp e at t

first_more : (x : ℕ) → T (is_more (judged_first x)) → Stands (x ∷ [])
unfolding is_more judged_first
first_more x t = go (eqb x 0xE5) (eqb x 0x10) (eqb x 0x68) refl refl refl
  where
    go : (u v w : Bool) → eqb x 0xE5 ≡ u → eqb x 0x10 ≡ v → eqb x 0x68 ≡ w → Stands (x ∷ [])
    go true v w d e f = absurd (simp d at t)
    go false true w d e f = fixed_1 (ap {B = List ℕ} (λ y. y ∷ []) (eqb-true x 0x10 e))
    go false false true d e f = data_1 (ap {B = List ℕ} (λ y. y ∷ []) (eqb-true x 0x68 f))
    go false false false d e f = absurd (simp (d, e, f) at t)

-- a byte that asks for more leads on
pub stands_on : (g : List ℕ) (x : ℕ) → Stands g → T (is_more (judged g x)) → Stands (g ++ x ∷ [])
stands_on g x (start e) t = rw e (first_more x (rw (e, judged_start x) at t))
stands_on g x (fixed_1 e) t = fixed_2 x (rw e)
stands_on g x (fixed_2 c e) t = fixed_3 c (rw (e, only_more c x (rw (e, judged_fixed_2 c x) at t)))
stands_on g x (fixed_3 c e) t = absurd (end_more x (Fixed c) (unfold is_more in refl) (rw (e, judged_fixed_3 c x) at t))
stands_on g x (data_1 e) t =
    let s : T (leb 1 x && leb x 255) = length_more x (rw (e, judged_data_1 x) at t) in
    data_2 x (leb-true 1 x (T_true _ (left (leb 1 x) (leb x 255) s))) (leb-true x 255 (T_true _ (right (leb 1 x) (leb x 255) s))) (rw e)
stands_on g x (data_2 n p q e) t = data_3 n p q (rw (e, only_more n x (rw (e, judged_data_2 n x) at t)))
stands_on g x (data_3 n p q e) t = body n [] p q (omega arith) (rw (e, only_more 0x68 x (rw (e, judged_data_3 n x) at t)))
stands_on g x (body n b p q h e) t = go (ℕ_discrete (length b) n)
  where
    go : Dec (length b ≡ n) → Stands (g ++ x ∷ [])
    go (yes k) = summed n b p q k (rw (e, only_more (checksum b) x (rw (e, judged-sum n b x k) at t)))
    go (no a) = body n (b ++ x ∷ []) p q (omega (arith, length-append b (x ∷ []))) (rw e)
stands_on g x (summed n b p q h e) t =
    let k : length (b ++ checksum b ∷ []) ≡ n + 1 = omega (arith, length-append b (checksum b ∷ [])) in
    absurd (end_more x (Data (get_or (b ++ checksum b ∷ []) 0 0) n) (unfold is_more in refl) (rw (e, judged_end n (b ++ checksum b ∷ []) x k) at t))

-- ---- runs of bytes that ask for more
pub gathers-append : (g xs ys : List ℕ) → gathers g (xs ++ ys) ≡ (gathers g xs && gathers (g ++ xs) ys)
unfolding gathers
gathers-append g [] ys = rw append-nil
gathers-append g (x ∷ xs) ys =
    rw (gathers-append (g ++ x ∷ []) xs ys, append_snoc g x xs) (sym (and_assoc (is_more (judged g x)) (gathers (g ++ x ∷ []) xs) (gathers (g ++ x ∷ xs) ys)))

pub stands_by : (g xs : List ℕ) → Stands g → T (gathers g xs) → Stands (g ++ xs)
unfolding gathers
stands_by g [] s t = rw append-nil s
stands_by g (x ∷ xs) s t =
    rw (append_snoc g x xs) at
    (stands_by (g ++ x ∷ []) xs (stands_on g x s (left (is_more (judged g x)) (gathers (g ++ x ∷ []) xs) t)) (right (is_more (judged g x)) (gathers (g ++ x ∷ []) xs) t))

-- a beginning stands somewhere in its frame
pub beginning_stands : (g : List ℕ) → T (is_beginning g) → Stands g
unfolding is_beginning
beginning_stands g t = stands_by [] g (start refl) t

-- the beginning with one byte more that asks for more is a beginning
pub beginning_on : (g : List ℕ) (x : ℕ) → T (is_beginning g) → T (is_more (judged g x)) → T (is_beginning (g ++ x ∷ []))
unfolding is_beginning gathers
beginning_on g x t s = rw (gathers-append [] g (x ∷ [])) (both (gathers [] g) (is_more (judged g x) && true) t (both (is_more (judged g x)) true s tt))

pub beginning_prefix : (xs ys : List ℕ) → T (is_beginning (xs ++ ys)) → T (is_beginning xs)
unfolding is_beginning
beginning_prefix xs ys t = left (gathers [] xs) (gathers xs ys) (rw (gathers-append [] xs ys) at t)

-- "a frame [has at most] 261" bytes, so that a beginning has at most 260
pub beginning_short : (g : List ℕ) → T (is_beginning g) → length g ≤ 260
beginning_short g t = go (beginning_stands g t)
  where
    go : Stands g → length g ≤ 260
    go (start e) = rw e (omega arith)
    go (fixed_1 e) = rw e (omega arith)
    go (fixed_2 c e) = rw e (omega arith)
    go (fixed_3 c e) = rw e (omega arith)
    go (data_1 e) = rw e (omega arith)
    go (data_2 n p q e) = rw e (omega arith)
    go (data_3 n p q e) = rw e (omega arith)
    go (body n b p q h e) = rw e (omega arith)
    go (summed n b p q h e) = rw e (omega (arith, length-append b (checksum b ∷ [])))

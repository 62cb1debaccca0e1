-- Places of which the first hold a list.
use Rattle.std.proofs.Common.{◌≡◌, ℕ, suc, ◌+◌, ◌-◌, ◌<◌, ◌≤◌, List, [], ◌∷◌, ◌++◌, length, get_or, take, drop, set, replicate, ap, ◌∙◌, sym, arith, length-append, length-drop, length-take-le, append_assoc, get_or-take, get_or-drop, take-append-drop}
use Rattle.std.proofs.lemmas.Grind.{same_number_lists}
use Rattle.std.proofs.Math.Seq.{take-append_seam, drop-append_seam, set-append_seam}
use Rattle.script.specs.declared.line.Line.{Line}
use Rattle.script.specs.Line.{listed}
use Rattle.script.specs.View.{in_places, line_of}

-- one more in the list is one more place written
pub place_next : {A : Type 0} (n : ℕ) (blank : A) (xs : List A) (x : A) → length xs < n → in_places n blank (xs ++ x ∷ []) ≡ set (in_places n blank xs) (length xs) x
place_next n blank xs x h =
    let e : n - length xs ≡ suc (n - length (xs ++ x ∷ [])) = omega (arith, length-append xs (x ∷ [])) in
    rw e (append_assoc xs (x ∷ []) (replicate (n - length (xs ++ x ∷ [])) blank) ∙ sym (set-append_seam xs blank (replicate (n - length (xs ++ x ∷ [])) blank) x))

-- the first places are the list, and behind them stand blanks
pub take_places : {A : Type 0} (n : ℕ) (blank : A) (xs : List A) → take (length xs) (in_places n blank xs) ≡ xs
take_places n blank xs = take-append_seam xs (replicate (n - length xs) blank)

pub drop_places : {A : Type 0} (n : ℕ) (blank : A) (xs : List A) → drop (length xs) (in_places n blank xs) ≡ replicate (n - length xs) blank
drop_places n blank xs = drop-append_seam xs (replicate (n - length xs) blank)

-- the bytes of a line, with 0 behind them, are its array
module _ (l : Line) (w : length l.bytes ≡ 264) where
  pub listed_length : length (listed (line_of l)) ≡ l.size
  listed_length = length-take-le l.size l.bytes (omega (arith, w, l.fits))

  pub listed_places : in_places 264 0 (listed (line_of l)) ≡ l.bytes
  listed_places = rw listed_length (ap (λ (r : List ℕ). take l.size l.bytes ++ r) (sym l.zero_behind) ∙ take-append-drop l.size l.bytes)

-- the n places from one on
module _ (a : List ℕ) (n at : ℕ) (l : at + n ≤ length a) where
  pub length_part : length (take n (drop at a)) ≡ n
  length_part = length-take-le n (drop at a) (omega (arith, l, length-drop at a))

  pub part_is : (ys : List ℕ) → length ys ≡ n → ((k : ℕ) → k < n → get_or ys k 0 ≡ get_or a (at + k) 0) → ys ≡ take n (drop at a)
  part_is ys e h =
      same_number_lists ys (take n (drop at a)) (omega (arith, e, length_part))
      (λ k i. let j : k < n = omega (arith, i, e) in h k j ∙ sym (get_or-take n (drop at a) k 0 j ∙ get_or-drop at a k 0))

-- The search for the place of an ID, look by look: what is known of the records in front of those that are left, and behind.
use Rattle.std.proofs.Common.{◌≡◌, ℕ, zero, suc, ◌+◌, ◌-◌, ◌*◌, ◌%◌, ◌^◌, ◌<◌, ◌≤◌, Bool, true, false, List, [], ◌∷◌, length, get_or, take, drop, sym, ap, ◌∙◌, refl, arith, length-drop, mod-eq_of_lt, pow_pos, pow_mono}
use Rattle.std.specs.Prelude.{min}
use Rattle.std.proofs.lemmas.Bool.{false≢true}
use Rattle.std.proofs.lemmas.List.{get_or_read, get_or-drop, drop-drop, take_all}
use Rattle.baos.specs.Table.{place}
use Rattle.baos.proofs.PlaceLaws.{id_at, Rising, lower, higher, place_is}

module _ {A : Type 0} (id_of : A → ℕ) (xs : List A) (id : ℕ) where
  abbrev n : ℕ
  n = length xs

  -- how many records are left where fewer than `limit` can be
  abbrev left : ℕ → ℕ
  left limit = min n (limit - 1)

  -- Where the loop stands: in front of `rest` all IDs are lower, and behind its first `left limit` records none is. Once it
  -- is begun, the table has as many records as the limit. A record is read with some record for places past the end.
  pub record Standing (begun : Bool) (limit : ℕ) (rest : List A) : Type 0 where
    pub inside : length rest ≤ n
    pub enough : left limit ≤ length rest
    pub is_rest : rest ≡ drop (n - length rest) xs
    pub below : (blank : A) (i : ℕ) → i < n - length rest → id_at id_of blank xs i < id
    pub above : (blank : A) (i : ℕ) → n - length rest + left limit ≤ i → i < n → id ≤ id_at id_of blank xs i
    pub going : begun ≡ true → limit ≤ n
    pub fresh : begun ≡ false → n < limit

  pub stand_begins : (limit : ℕ) → n < limit → Standing false limit xs
  stand_begins limit l =
      record {
        inside = omega arith;
        enough = omega arith;
        is_rest = ap (λ (k : ℕ). drop k xs) {x = 0} {y = n - n} (omega arith);
        below = λ b i u. absurd (omega (arith, u));
        above = λ b i u v. absurd (omega (arith, u, v, l));
        going = λ e. absurd (false≢true e);
        fresh = λ e. l;
      }

  pub none_lower : n ≡ 0 → 0 ≡ place id_of id xs
  unfolding place
  none_lower e = go xs e
    where
      go : (ys : List A) → length ys ≡ 0 → 0 ≡ place id_of id ys
      go [] e = refl
      go (y ∷ ys) e = absurd (omega (arith, e))

  -- no record is left
  pub stand_ends : (begun : Bool) (rest : List A) → 0 < n → Standing begun 1 rest → n - length rest ≡ place id_of id xs
  stand_ends begun rest some s = go xs refl
    where
      go : (ys : List A) → xs ≡ ys → n - length rest ≡ place id_of id xs
      go [] e = absurd (omega (arith, some, ap length e))
      go (y ∷ ys) e = place_is id_of y id xs (n - length rest) (omega arith) (s.below y) (λ i u v. s.above y i (omega (arith, u)) v)

  -- one look, `width` from the end of what is left
  module _ (begun : Bool) (limit width : ℕ) (rest : List A) (s : Standing begun limit rest) (twice : limit ≡ 2 * width) (some : 0 < width) where
    -- the table has fewer records than the width
    pub stand_narrower : begun ≡ false → n < width → Standing begun width rest
    stand_narrower off u =
        record {
          inside = s.inside;
          enough = omega (arith, u, s.enough, twice);
          is_rest = s.is_rest;
          below = s.below;
          above = λ b i v w. s.above b i (omega (arith, u, v, twice)) w;
          going = λ e. absurd (false≢true (sym off ∙ e));
          fresh = λ e. u;
        }

    module _ (rise : (blank : A) → Rising id_of blank xs) (wide : width ≤ n) (next : Bool) (on : next ≡ true)
        (look : ℕ) (there : look ≡ left limit - width) (x : A) (read : x ≡ get_or rest look x) where
      look_in : look < length rest
      look_in = omega (arith, s.enough, twice, some, wide, there)

      id_is : (blank : A) → id_of x ≡ id_at id_of blank xs (n - length rest + look)
      id_is blank = ap id_of (get_or_read rest look x look_in read blank ∙ ap (λ (ys : List A). get_or ys look blank) s.is_rest ∙ get_or-drop (n - length rest) xs look blank)

      pub stand_before : id ≤ id_of x → Standing next width rest
      stand_before u =
          record {
            inside = s.inside;
            enough = omega (arith, s.enough, twice, some, wide);
            is_rest = s.is_rest;
            below = s.below;
            above = λ b i v w. higher id_of b xs (rise b) id (n - length rest + look) (omega (arith, u, id_is b)) i (omega (arith, v, there, twice, some, wide)) w;
            going = λ e. wide;
            fresh = λ e. absurd (false≢true (sym e ∙ on));
          }

      pub stand_behind : id_of x < id → (k : ℕ) → k ≡ look + 1 → Standing next width (take (length rest - k) (drop k rest))
      stand_behind u k past =
          record {
            inside = omega (arith, long, s.inside);
            enough = omega (arith, long, s.enough, twice, some, wide, there, past);
            is_rest = whole ∙ ap (drop k) s.is_rest ∙ drop-drop k (n - length rest) xs ∙ ap (λ (j : ℕ). drop j xs) {x = n - length rest + k} (omega (arith, long, s.inside, past, look_in));
            below = λ b i v. lower id_of b xs (rise b) id (n - length rest + look) (omega (arith, s.inside, look_in)) (omega (arith, u, id_is b)) i (omega (arith, v, long, past, s.inside, look_in));
            above = λ b i v w. s.above b i (omega (arith, v, long, past, there, twice, some, wide, s.inside, look_in)) w;
            going = λ e. wide;
            fresh = λ e. absurd (false≢true (sym e ∙ on));
          }
        where
          whole : take (length rest - k) (drop k rest) ≡ drop k rest
          whole = take_all (length rest - k) (drop k rest) (omega (arith, length-drop k rest))

          long : length (take (length rest - k) (drop k rest)) ≡ length rest - k
          long = ap length whole ∙ length-drop k rest

  -- ---- the widths, which are powers of two
  halved : (power : ℕ) → 0 < power → 2 ^ power ≡ 2 * 2 ^ (power - 1)
  halved zero some = elim some [ ]
  halved (suc power) some = let before : suc power - 1 ≡ power = omega arith in omega (arith, ap (λ (k : ℕ). 2 ^ k) before)

  one : (power : ℕ) → power ≤ 0 → 2 ^ power ≡ 1
  one power none = ap (λ (k : ℕ). 2 ^ k) {x = power} {y = 0} (omega (arith, none))

  abbrev shifted : ℕ → ℕ
  shifted power = 1 * 2 ^ power % 18446744073709551616

  shifted_is : (power : ℕ) → power ≤ 10 → shifted power ≡ 2 ^ power
  shifted_is power few = let low : 2 ^ power ≤ 2 ^ 10 = pow_mono few in omega (arith, low, mod-eq_of_lt {n = 1 * 2 ^ power} {m = 18446744073709551616} (omega (arith, low)))

  -- ---- a turn of the loop
  module _ (begun : Bool) (power : ℕ) (rest : List A) (s : Standing begun (2 ^ power) rest) where
    pub turns_end : 0 < n → power ≤ 0 → n - length rest ≡ place id_of id xs
    turns_end filled none = stand_ends begun rest filled (rw (one power none) at s)

    module _ (rise : (blank : A) → Rising id_of blank xs) (few : power ≤ 10) (some : 0 < power) (x : A) where
      abbrev width : ℕ
      width = shifted (power - 1)

      positive : 0 < 2 ^ (power - 1)
      positive = pow_pos (power - 1)

      same : width ≡ 2 ^ (power - 1)
      same = shifted_is (power - 1) (omega (arith, few))

      module _ (on : begun ≡ true) (read : x ≡ get_or rest (width - 1) x) where
        wide : 2 ^ (power - 1) ≤ n
        wide = omega (arith, s.going on, halved power some)

        there : width - 1 ≡ left (2 ^ power) - 2 ^ (power - 1)
        there = omega (arith, s.going on, halved power some, same)

        pub middle_behind : id_of x < id → Standing begun (2 ^ (power - 1)) (take (length rest - width) (drop width rest))
        middle_behind u = stand_behind begun (2 ^ power) (2 ^ (power - 1)) rest s (halved power some) positive rise wide begun on (width - 1) there x read u width (omega (arith, same, positive))

        pub middle_before : id ≤ id_of x → Standing begun (2 ^ (power - 1)) rest
        middle_before u = stand_before begun (2 ^ power) (2 ^ (power - 1)) rest s (halved power some) positive rise wide begun on (width - 1) there x read u

      module _ (off : begun ≡ false) (enough : width ≤ n) (read : x ≡ get_or rest (n - width) x) where
        filled : 2 ^ (power - 1) ≤ n
        filled = omega (arith, enough, same)

        end : n - width ≡ left (2 ^ power) - 2 ^ (power - 1)
        end = omega (arith, s.fresh off, halved power some, same)

        pub first_behind : id_of x < id → Standing true (2 ^ (power - 1)) (take (length rest - (n - width + 1)) (drop (n - width + 1) rest))
        first_behind u = stand_behind begun (2 ^ power) (2 ^ (power - 1)) rest s (halved power some) positive rise filled true refl (n - width) end x read u (n - width + 1) refl

        pub first_before : id ≤ id_of x → Standing true (2 ^ (power - 1)) rest
        first_before u = stand_before begun (2 ^ power) (2 ^ (power - 1)) rest s (halved power some) positive rise filled true refl (n - width) end x read u

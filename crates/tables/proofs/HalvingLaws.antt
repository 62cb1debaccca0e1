-- The search for the place of an ID in widths that are halved, look by look: what is known of the records behind and in front of those
-- that are left. Generic over the records. The code searches by the laws of SearchLaws.
use mathlib.Core.Path.{◌≡◌, refl, sym, ◌∙◌, ap, subst}
use Prim.Native.Nat.{ℕ, zero, suc, ◌<◌, ◌≤◌, ◌+◌, ◌-◌, ◌*◌, ◌/◌}
use native.Mathlib.Omega.{arith}
use native.Mathlib.Nat.{lt_irrefl}
use mathlib.Core.Bool.{Bool, true, false, not}
use mathlib.Core.List.{List}
use lib.ListN.{length, get_or, take, drop, length-drop}
use lib.Seq.{get_or-drop, drop-drop, take_all}
use lib.Dec.{T, T_not}
use Rattle.baos.specs.Table.{place}
use Rattle.baos.proofs.PlaceLaws.{id_at, Rising, lower, higher, place_is}

-- a width that is halved k times: a power of two each time, and then 0
pub Halving : ℕ → ℕ → Type 0
Halving zero w = w ≡ 0
Halving (suc k) w = (2 * (w / 2) - 1 ≡ w - 1) × Halving k (w / 2)

pub halved : (k w : ℕ) → Halving k w → 0 < w → 2 * (w / 2) - 1 ≡ w - 1
unfolding Halving
halved zero w h l = absurd (lt_irrefl 0 (omega (arith, h, l)))
halved (suc k) w h l = h.0

pub halves : (k w : ℕ) → Halving k w → 0 < w → Halving (k - 1) (w / 2)
unfolding Halving
halves zero w h l = absurd (lt_irrefl 0 (omega (arith, h, l)))
halves (suc k) w h l = subst (λ (j : ℕ). Halving j (w / 2)) {x = k} {y = suc k - 1} (omega arith) h.1

pub halving_512 : Halving 10 512
unfolding Halving
halving_512 = (refl, (refl, (refl, (refl, (refl, (refl, (refl, (refl, (refl, (refl, refl))))))))))

module _ {A : Type 0} (id_of : A → ℕ) (blank : A) (xs : List A) (id : ℕ) where
  abbrev n : ℕ
  n = length xs

  abbrev ids : ℕ → ℕ
  ids = id_at id_of blank xs

  -- `left` records are left, from `at` on; once it is begun they are one less than twice the width
  pub record Searching (begun : Bool) (width at left : ℕ) : Type 0 where
    pub inside : at + left ≤ n
    pub below : (i : ℕ) → i < at → ids i < id
    pub above : (i : ℕ) → at + left ≤ i → i < n → id ≤ ids i
    pub going : T begun → left ≡ 2 * width - 1
    pub fresh : T (not begun) → (at ≡ 0) × (n < 2 * width)

  -- where the loop stands: `rest` is what is left of the table, from `at` on, and the width can be halved down to 0
  pub record Standing (begun : Bool) (width : ℕ) (rest : List A) : Type 0 where
    pub turns : ℕ
    pub at : ℕ
    pub left : ℕ
    pub known : Searching begun width at left
    pub halving : Halving turns width
    pub few : width ≤ 512
    pub behind : at ≤ n
    pub is_rest : rest ≡ drop at xs

  module _ (rise : Rising id_of blank xs) where
    pub search_begins : (width : ℕ) → n < 2 * width → Searching false width 0 n
    search_begins width l =
        record {
          inside = omega arith;
          below = λ i u. absurd (lt_irrefl 0 (omega (arith, u)));
          above = λ i u v. absurd (lt_irrefl i (omega (arith, u, v)));
          going = λ t. absurd t;
          fresh = λ t. (refl, l);
        }

    module _ (begun : Bool) (width at left : ℕ) (h : Searching begun width at left) where
      -- nothing is left
      pub search_ends : 0 < n → width ≤ 0 → at ≡ place id_of id xs
      search_ends some l = go begun h.going h.fresh
        where
          go : (b : Bool) → (T b → left ≡ 2 * width - 1) → (T (not b) → (at ≡ 0) × (n < 2 * width)) → at ≡ place id_of id xs
          go true g f = place_is id_of blank id xs at (omega (arith, h.inside)) h.below (λ i u v. h.above i (omega (arith, u, g tt, l)) v)
          go false g f = absurd (lt_irrefl n (omega (arith, (f tt).1, l)))

      module _ (some : 0 < width) (even : 2 * (width / 2) - 1 ≡ width - 1) where
        -- begun: the record in the middle
        module _ (on : T begun) where
          pub middle_in : at + (width - 1) < n
          middle_in = omega (arith, h.inside, h.going on, some)

          pub search_behind : ids (at + (width - 1)) < id → Searching begun (width / 2) (at + width) (width - 1)
          search_behind u =
              record {
                inside = omega (arith, h.inside, h.going on, some);
                below = λ i v. lower id_of blank xs rise id (at + (width - 1)) middle_in u i (omega (arith, v, some));
                above = λ i v w. h.above i (omega (arith, v, h.going on, some)) w;
                going = λ t. sym even;
                fresh = λ t. absurd (T_not begun t on);
              }

          pub search_before : id ≤ ids (at + (width - 1)) → Searching begun (width / 2) at (width - 1)
          search_before u =
              record {
                inside = omega (arith, middle_in);
                below = h.below;
                above = λ i v w. higher id_of blank xs rise id (at + (width - 1)) u i v w;
                going = λ t. sym even;
                fresh = λ t. absurd (T_not begun t on);
              }

        -- not begun: the first look, `width` from the end
        module _ (off : T (not begun)) where
          module _ (enough : width ≤ n) where
            pub first_in : n - width < n
            first_in = omega (arith, enough, some)

            pub first_behind : ids (n - width) < id → Searching true (width / 2) (n - width + 1) (width - 1)
            first_behind u =
                record {
                  inside = omega (arith, enough, some);
                  below = λ i v. lower id_of blank xs rise id (n - width) first_in u i v;
                  above = λ i v w. absurd (lt_irrefl i (omega (arith, v, w, enough, some)));
                  going = λ t. sym even;
                  fresh = λ t. absurd t;
                }

            pub first_before : id ≤ ids (n - width) → Searching true (width / 2) at (width - 1)
            first_before u =
                record {
                  inside = omega (arith, enough, (h.fresh off).0);
                  below = h.below;
                  above = λ i v w. higher id_of blank xs rise id (n - width) u i (omega (arith, v, (h.fresh off).1, some)) w;
                  going = λ t. sym even;
                  fresh = λ t. absurd t;
                }

          -- the table has fewer
          pub search_narrower : 0 < n → n < width → Searching begun (width / 2) at left
          search_narrower l u =
              record {
                inside = h.inside;
                below = h.below;
                above = h.above;
                going = λ t. absurd (T_not begun off t);
                fresh = λ t. ((h.fresh off).0, omega (arith, l, u, even));
              }

    -- ---- `rest`, look by look
    pub stand_begins : n ≤ 1000 → Standing false 512 xs
    stand_begins l =
        record {
          turns = 10;
          at = 0;
          left = n;
          known = search_begins 512 (omega (arith, l));
          halving = halving_512;
          few = omega arith;
          behind = omega arith;
          is_rest = refl;
        }

    module _ (begun : Bool) (width : ℕ) (rest : List A) (s : Standing begun width rest) where
      -- so many records are left
      pub as_long : length rest ≡ n - s.at
      as_long = ap length s.is_rest ∙ length-drop s.at xs

      pub stand_ends : 0 < n → width ≤ 0 → n - length rest ≡ place id_of id xs
      stand_ends some l = omega (arith, as_long, s.behind) ∙ search_ends begun width s.at s.left s.known some l

      module _ (some : 0 < width) where
        even : 2 * (width / 2) - 1 ≡ width - 1
        even = halved s.turns width s.halving some

        ahead : (k : ℕ) → take (length rest - k) (drop k rest) ≡ drop (s.at + k) xs
        ahead k = take_all (length rest - k) (drop k rest) (omega (arith, length-drop k rest)) ∙ ap (drop k) s.is_rest ∙ drop-drop k s.at xs

        read : (i : ℕ) → id_of (get_or rest i blank) ≡ ids (s.at + i)
        read i = ap (λ (ys : List A). id_of (get_or ys i blank)) s.is_rest ∙ ap id_of (get_or-drop s.at xs i blank)

        -- the record in the middle
        module _ (on : T begun) where
          middle : s.at + (width - 1) < n
          middle = middle_in begun width s.at s.left s.known some even on

          pub stand_behind : id_of (get_or rest (width - 1) blank) < id → Standing begun (width / 2) (take (length rest - width) (drop width rest))
          stand_behind u =
              record {
                turns = s.turns - 1;
                at = s.at + width;
                left = width - 1;
                known = search_behind begun width s.at s.left s.known some even on (omega (arith, u, read (width - 1)));
                halving = halves s.turns width s.halving some;
                few = omega (arith, s.few);
                behind = omega (arith, middle, some);
                is_rest = ahead width;
              }

          pub stand_before : id ≤ id_of (get_or rest (width - 1) blank) → Standing begun (width / 2) rest
          stand_before u =
              record {
                turns = s.turns - 1;
                at = s.at;
                left = width - 1;
                known = search_before begun width s.at s.left s.known some even on (omega (arith, u, read (width - 1)));
                halving = halves s.turns width s.halving some;
                few = omega (arith, s.few);
                behind = s.behind;
                is_rest = s.is_rest;
              }

        -- the first look
        module _ (off : T (not begun)) where
          module _ (enough : width ≤ n) where
            at_first : s.at + (n - width) ≡ n - width
            at_first = omega (arith, (s.known.fresh off).0)

            first : n - width < n
            first = first_in begun width s.at s.left s.known some even off enough

            read_first : id_of (get_or rest (n - width) blank) ≡ ids (n - width)
            read_first = read (n - width) ∙ ap ids at_first

            pub stand_first_behind : id_of (get_or rest (n - width) blank) < id → Standing true (width / 2) (take (length rest - (n - width + 1)) (drop (n - width + 1) rest))
            stand_first_behind u =
                record {
                  turns = s.turns - 1;
                  at = n - width + 1;
                  left = width - 1;
                  known = first_behind begun width s.at s.left s.known some even off enough (omega (arith, u, read_first));
                  halving = halves s.turns width s.halving some;
                  few = omega (arith, s.few);
                  behind = omega (arith, first);
                  is_rest = ahead (n - width + 1) ∙ ap (λ (k : ℕ). drop k xs) next;
                }
              where
                next : s.at + (n - width + 1) ≡ n - width + 1
                next = omega (arith, (s.known.fresh off).0)

            pub stand_first_before : id ≤ id_of (get_or rest (n - width) blank) → Standing true (width / 2) rest
            stand_first_before u =
                record {
                  turns = s.turns - 1;
                  at = s.at;
                  left = width - 1;
                  known = first_before begun width s.at s.left s.known some even off enough (omega (arith, u, read_first));
                  halving = halves s.turns width s.halving some;
                  few = omega (arith, s.few);
                  behind = s.behind;
                  is_rest = s.is_rest;
                }

          pub stand_narrower : 0 < n → n < width → Standing begun (width / 2) rest
          stand_narrower filled u =
              record {
                turns = s.turns - 1;
                at = s.at;
                left = s.left;
                known = search_narrower begun width s.at s.left s.known some even off filled u;
                halving = halves s.turns width s.halving some;
                few = omega (arith, s.few);
                behind = s.behind;
                is_rest = s.is_rest;
              }

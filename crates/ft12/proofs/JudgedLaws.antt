-- What the receiver makes of a byte, by the length and the bytes gathered before it.
use Rattle.std.proofs.Common.{refl, ℕ, ◌+◌, ◌<◌, ◌≤◌, ◌≡◌, ◌∙◌, List, [], ◌∷◌, ◌++◌, arith, length, take, drop, get_or, length-append, T, ltb, eqb, length-take-le, eq-eqb, ne_eqb, le-ltb}
use Rattle.std.specs.Prelude.{if◌then◌else◌}
use Rattle.ft12.specs.Frame.{checksum}
use Rattle.ft12.specs.Receiver.{only, judged_fixed, judged_data, judged, is_more, is_beginning}
use Rattle.ft12.specs.declared.receiver.Judgement.TheVariants.{More, Damage, Fixed, Data}
use Rattle.ft12.proofs.ReceiverLaws.{beginning_on, beginning_short}

-- the first byte was looked at before
pub data_behind : (g : List ℕ) (b : ℕ) → 0 < length g → judged_data (0x68 ∷ drop 1 g) b ≡ judged_data g b
unfolding judged_data
data_behind [] b h = absurd (omega arith)
data_behind (x ∷ g) b h = refl

module _ (g : List ℕ) (b : ℕ) where
  pub judged_fixed_lem : 0 < length g → get_or g 0 0 ≡ 0x10 → judged g b ≡ judged_fixed g b
  unfolding judged
  judged_fixed_lem p q = simp (ne_eqb (length g) 0 (omega arith), eq-eqb (get_or g 0 0) 0x10 q)

  pub judged_data_lem : 0 < length g → (get_or g 0 0 ≡ 0x10 → ⊥) → judged g b ≡ judged_data g b
  unfolding judged
  judged_data_lem p q = simp (ne_eqb (length g) 0 (omega arith), ne_eqb (get_or g 0 0) 0x10 q)

  -- ---- after 10
  -- the same C is there
  pub fixed_last : 3 ≤ length g → judged_fixed g b ≡ (if eqb b 0x16 then Fixed (get_or g 1 0) else Damage)
  unfolding judged_fixed
  fixed_last p = simp (ne_eqb (length g) 1 (omega arith), ne_eqb (length g) 2 (omega arith))

  -- ---- after 68
  pub data_count_damage : length g ≡ 1 → b ≡ 0 → judged_data g b ≡ Damage
  unfolding judged_data
  data_count_damage p q = rw (p, q)

  pub data_again_damage : length g ≡ 2 → (b ≡ get_or g 1 0 → ⊥) → judged_data g b ≡ Damage
  unfolding judged_data
  data_again_damage p q = simp (p, ne_eqb _ _ q)

  pub data_second_damage : length g ≡ 3 → (b ≡ 0x68 → ⊥) → judged_data g b ≡ Damage
  unfolding judged_data
  data_second_damage p q = simp (p, ne_eqb _ _ q)

  -- the head is there
  data_headed :
      4 ≤ length g →
      judged_data g b ≡
      (if ltb (length g) (4 + get_or g 1 0) then More
      else if eqb (length g) (4 + get_or g 1 0) then only (checksum (drop 4 g)) b
      else if eqb b 0x16 then Data (get_or g 4 0) (get_or g 1 0)
      else Damage)
  unfolding judged_data
  data_headed p = simp (ne_eqb (length g) 1 (omega arith), ne_eqb (length g) 2 (omega arith), ne_eqb (length g) 3 (omega arith))

  -- L bytes are there
  pub data_counted : 4 ≤ length g → length g ≡ 4 + get_or g 1 0 → judged_data g b ≡ only (checksum (drop 4 g)) b
  data_counted p q = data_headed p ∙ simp (le-ltb (length g) (4 + get_or g 1 0) (omega arith), eq-eqb _ _ q)

  -- a beginning that wants a byte more has fewer than 260
  pub more_room : T (is_beginning g) → judged g b ≡ More → length g < 260
  more_room t e = omega (arith, length-append g (b ∷ []), beginning_short (g ++ b ∷ []) (beginning_on g b t (rw e (unfold is_more in tt))))

pub more_room_take : (l : List ℕ) (n b : ℕ) → n ≤ length l → T (is_beginning (take n l)) → judged (take n l) b ≡ More → n < 260
more_room_take l n b h t e = omega (arith, more_room (take n l) b t e, length-take-le n l h)

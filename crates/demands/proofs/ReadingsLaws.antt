-- Engineering readings: each sentence of item 3, from the laws of `dpt`.
use Prim.Native.Nat.{ℕ, zero, suc, ◌+◌, ◌-◌, ◌*◌, ◌/◌, ◌%◌, ◌≤◌, ◌<◌}
use mathlib.Core.Path.{◌≡◌, refl, sym, ◌∙◌, ap, subst}
use mathlib.Core.Logic.{◌≢◌, inl, inr}
use mathlib.Core.Bool.{Bool, true, false, not, and-true}
use mathlib.Core.List.{List, [], ◌∷◌, map}
use native.Mathlib.Nat.{lt_irrefl}
use native.Mathlib.Omega.{arith}
use lib.ListN.{length, get_or}
use lib.Dec.{T, ltb, eqb, ltb→lt, lt→ltb, eqb→eq, leb→le, nleb→lt}
use borrow.Author.Tests.{eq-eqb, ne_eqb}
use lib.IntN.{pos, ◌+ℤ◌, ◌-ℤ◌}
use lib.Ieee.{Float, nan, inf, fin, binary32, round, div, of_int, of_bits, to_bits}
use lib.Ieee.Fits.{round-fits, of_int-fits}
use lib.Ieee.Bits.{to_bits-of_bits}
use Rattle.std.specs.Prelude.{if◌then◌else◌}
use Rattle.words.specs.Words.{of_two_bytes, is_yes, yes_or_no, are_bytes}
use Rattle.words.proofs.WordLaws.{left, right, true_T, T_true, T_false, bytes_at}
use Rattle.baos.specs.declared.datapoint.Datapoint.{Datapoint}
use Rattle.baos.specs.Datapoint.{datapoint_id, datapoint_ok, is_valid, without_updated, with_state, with_mark, handed_out, zero_datapoint}
use Rattle.baos.specs.Flags.{with_flags}
use Rattle.baos.specs.Text.{no_text_lists, text_lists_ok}
use Rattle.baos.specs.TextList.{entries_from, entries_at, bytes_taken, rise_from, text_list_ok}
use Rattle.baos.specs.Item.{item_id, item_ok}
use Rattle.baos.specs.Table.{datapoints_only, well_formed, table_ok, rising, found}
use Rattle.baos.proofs.PlaceLaws.{above}
use Rattle.baos.proofs.TableLaws.{ids_rise}
use Rattle.dpt.specs.declared.reading.Reading.{Reading}
use Rattle.dpt.specs.declared.reading.Reading.TheVariants.{Switch, Count, TwoOctet, Single, Unreadable}
use Rattle.dpt.specs.TwoOctet.{sign_is_set, exponent, eleven_bits, mantissa, hundredths, divided_by100, two_octet, Near}
use Rattle.dpt.specs.Single.{of_four_bytes, single, is_finite}
use Rattle.dpt.specs.Reading.{two_octet_reading, single_reading, is_of, octet, reading_of, reply_of, reading_for}
use Rattle.dpt.proofs.HundredthsLaws.{in_range_lem}
use Rattle.dpt.proofs.Distance.{hundredths_exact, hundred, divided, two_octet_near}
use Rattle.dpt.proofs.ReadingLaws.{finite_number, special_bits, finite_bits}
use Rattle.dpt.proofs.NumberLaws.{reading_told, reading_reply_told}
use Rattle.demands.specs.Readings.{EachTwoOctetBits, EachTwoOctetValue, EndsReached, ValidOf, two_octets, as_single, Special, Reads, EachReading, EachNear, EachSingle, Stands, EachReadingGiven, SpecialByBits, EachReadAlike, EngineeringReadings}

-- ---- DPT 9, bit by bit
module _ (high low : ℕ) (H : high < 256) (L : low < 256) where
  eleven_below : eleven_bits high low < 2048
  eleven_below = omega (arith, L)

  bits_are : of_two_bytes high low ≡ yes_or_no (sign_is_set high) * 32768 + exponent high * 2048 + eleven_bits high low
  bits_are = go (sign_is_set high) (leb→le 128 high) (nleb→lt 128 high)
    where
      go : (s : Bool) → (T s → 128 ≤ high) → (T (not s) → high < 128) → of_two_bytes high low ≡ yes_or_no s * 32768 + exponent high * 2048 + eleven_bits high low
      go true h k = let l = h tt in omega (arith, H, L, l)
      go false h k = let l = k tt in omega (arith, H, L, l)

  four_bits : exponent high < 16
  four_bits = omega arith

  not_below : sign_is_set high ≡ false → mantissa high low ≡ pos (eleven_bits high low)
  unfolding mantissa
  not_below e = rw e refl

  -- a - 2048 + 4096, where a is below 2048
  more_4096 : (a : ℕ) → a < 2048 → pos a -ℤ pos 2048 +ℤ pos 4096 ≡ pos (2048 + a)
  more_4096 a h = rw (T_true (ltb a 2048) (lt→ltb a 2048 h)) (rw (T_false (ltb 4096 (suc (2048 - suc a))) (λ (t : T (ltb 4096 (suc (2048 - suc a)))). absurd (too_many (ltb→lt 4096 (suc (2048 - suc a)) t)))) (ap pos (omega (arith, h))))
    where
      too_many : 4096 < suc (2048 - suc a) → ⊥
      too_many l = omega (arith, l)

  below : sign_is_set high ≡ true → mantissa high low +ℤ pos 4096 ≡ pos (2048 + eleven_bits high low)
  unfolding mantissa
  below e = rw e (more_4096 (eleven_bits high low) eleven_below)

two_octet_bits : EachTwoOctetBits
unfolding hundredths
two_octet_bits high low h l = record {
  bits = bits_are high low h l;
  four_bits = four_bits high low h l;
  eleven_bits_below = eleven_below high low h l;
  not_below = not_below high low h l;
  below = below high low h l;
  value = refl;
}

-- ---- its value
hundred_whole : of_int binary32 (pos 100) ≡ hundred
unfolding of_int round
hundred_whole = refl

two_octet_value : EachTwoOctetValue
unfolding two_octet divided_by100
two_octet_value high low _ l =
    let h = hundredths high low in
    let exact = hundredths_exact high low l in
    record {
      hundredths_in_range = in_range_lem high low l;
      exact = exact;
      exact_format = of_int-fits binary32 h;
      divided = sym (ap (div binary32 (of_int binary32 h)) hundred_whole ∙ divided (of_int binary32 h) h exact);
      reading_format = round-fits binary32 _ _ 100;
      near = two_octet_near high low l;
    }

ends_reached : EndsReached
unfolding hundredths mantissa
ends_reached = record { least = refl; greatest = refl; least_mantissa = refl }

-- ---- which reading a datapoint has
-- a number is finite, or one of three
not_special : (x : Float) → (Special x → ⊥) → is_finite x ≡ true
not_special nan n = absurd (n (inl refl))
not_special (inf false) n = absurd (n (inr (inl refl)))
not_special (inf true) n = absurd (n (inr (inr refl)))
not_special (fin s m e) n = refl

special : (x : Float) → is_finite x ≡ false → Special x
special nan e = inl refl
special (inf false) e = inr (inl refl)
special (inf true) e = inr (inr refl)
special (fin s m e) f = absurd (true_T (sym f))

special_no : (x : Float) → Special x → is_finite x ≡ false
special_no x (inl e) = ap is_finite e
special_no x (inr (inl e)) = ap is_finite e
special_no x (inr (inr e)) = ap is_finite e

special_by_bits : SpecialByBits
unfolding single
special_by_bits bits = ((λ s. by_field s (eqb field 255) refl), (λ e. special (of_bits binary32 bits) (special_bits bits e)))
  where
    field : ℕ
    field = bits % 2147483648 / 8388608

    by_field : Special (of_bits binary32 bits) → (b : Bool) → eqb field 255 ≡ b → field ≡ 255
    by_field s true e = eqb→eq field 255 (true_T e)
    by_field s false e = absurd (true_T (sym (special_no (of_bits binary32 bits) s) ∙ finite_bits bits (λ (h : field ≡ 255). true_T (sym e ∙ eq-eqb field 255 h))))

module _ (d : Datapoint) where
  is_of_lem : (dpt typecode : ℕ) → d.dpt ≡ dpt → d.typecode ≡ typecode → is_of dpt typecode d ≡ true
  is_of_lem dpt typecode p t = rw (eq-eqb d.dpt dpt p, eq-eqb d.typecode typecode t) refl

  not_of : (dpt typecode : ℕ) → ((d.dpt ≡ dpt) × (d.typecode ≡ typecode) → ⊥) → is_of dpt typecode d ≡ false
  not_of dpt typecode n = T_false (is_of dpt typecode d) (λ (t : T (is_of dpt typecode d)). n (eqb→eq d.dpt dpt (left (eqb d.dpt dpt) (eqb d.typecode typecode) t), eqb→eq d.typecode typecode (right (eqb d.dpt dpt) (eqb d.typecode typecode) t)))

  reads_so : (r : Reading) → Reads d r → reading_of d ≡ r
  unfolding reading_of two_octet_reading single_reading single
  reads_so r (Reads.switch k e) = rw (k.valid, k.of_dpt, k.of_type) (sym e)
  reads_so r (Reads.count k e) = rw (k.valid, k.of_dpt, k.of_type) (sym e)
  reads_so r (Reads.two_octet_value k n e) = rw (k.valid, k.of_dpt, k.of_type, ne_eqb (two_octets d) 0x7FFF n) (sym e)
  reads_so r (Reads.single k n e) = rw (k.valid, k.of_dpt, k.of_type, not_special (as_single d) n) (sym e)
  reads_so r (Reads.is_7FFF k n e) = rw (k.valid, k.of_dpt, k.of_type, eq-eqb (two_octets d) 0x7FFF n) (sym e)
  reads_so r (Reads.special k n e) = rw (k.valid, k.of_dpt, k.of_type, special_no (as_single d) n) (sym e)
  reads_so r (Reads.other_pair o e) = go (is_valid d.state)
    where
      go : (v : Bool) → (if not v then Unreadable else if is_of 1 0 d then Switch (is_yes (octet 0 d)) else if is_of 5 7 d then Count (octet 0 d) else if is_of 9 8 d then two_octet_reading (octet 0 d) (octet 1 d) else if is_of 14 10 d then single_reading (as_single d) else Unreadable) ≡ r
      go true = rw (not_of 1 0 o.no_switch, not_of 5 7 o.no_count, not_of 9 8 o.no_two_octet, not_of 14 10 o.no_single) (sym e)
      go false = sym e
  reads_so r (Reads.not_valid v e) = rw v (sym e)

  -- which of the pairs it has
  of_pair : (dpt typecode : ℕ) → is_valid d.state ≡ true → is_of dpt typecode d ≡ true → ValidOf dpt typecode d
  of_pair dpt typecode v e = record {
    valid = v;
    of_dpt = eqb→eq d.dpt dpt (left (eqb d.dpt dpt) (eqb d.typecode typecode) (true_T e));
    of_type = eqb→eq d.typecode typecode (right (eqb d.dpt dpt) (eqb d.typecode typecode) (true_T e));
  }

  no_pair : (dpt typecode : ℕ) → is_of dpt typecode d ≡ false → (d.dpt ≡ dpt) × (d.typecode ≡ typecode) → ⊥
  no_pair dpt typecode e p = true_T (sym e ∙ is_of_lem dpt typecode p.0 p.1)

  reads : Reads d (reading_of d)
  unfolding reading_of two_octet_reading single_reading single
  reads = by_valid (is_valid d.state) refl
    where
      by_single : (v : is_valid d.state ≡ true) (e : is_of 14 10 d ≡ true) (b : Bool) → is_finite (as_single d) ≡ b → Reads d (if b then Single (as_single d) else Unreadable)
      by_single v e true q = Reads.single (of_pair 14 10 v e) (λ (s : Special (as_single d)). true_T (sym (special_no (as_single d) s) ∙ q)) refl
      by_single v e false q = Reads.special (of_pair 14 10 v e) (special (as_single d) q) refl

      by_octets : (v : is_valid d.state ≡ true) (e : is_of 9 8 d ≡ true) (b : Bool) → eqb (two_octets d) 0x7FFF ≡ b → Reads d (if b then Unreadable else TwoOctet (two_octet (octet 0 d) (octet 1 d)))
      by_octets v e true q = Reads.is_7FFF (of_pair 9 8 v e) (eqb→eq (two_octets d) 0x7FFF (true_T q)) refl
      by_octets v e false q = Reads.two_octet_value (of_pair 9 8 v e) (λ (s : two_octets d ≡ 0x7FFF). true_T (sym q ∙ eq-eqb (two_octets d) 0x7FFF s)) refl

      by_pairs : (v : is_valid d.state ≡ true) (a b c e : Bool) → is_of 1 0 d ≡ a → is_of 5 7 d ≡ b → is_of 9 8 d ≡ c → is_of 14 10 d ≡ e
          → Reads d (if a then Switch (is_yes (octet 0 d)) else if b then Count (octet 0 d) else if c then two_octet_reading (octet 0 d) (octet 1 d) else if e then single_reading (as_single d) else Unreadable)
      by_pairs v true b c e p q r s = Reads.switch (of_pair 1 0 v p) refl
      by_pairs v false true c e p q r s = Reads.count (of_pair 5 7 v q) refl
      by_pairs v false false true e p q r s = by_octets v r (eqb (two_octets d) 0x7FFF) refl
      by_pairs v false false false true p q r s = by_single v s (is_finite (as_single d)) refl
      by_pairs v false false false false p q r s =
          Reads.other_pair (record { no_switch = no_pair 1 0 p; no_count = no_pair 5 7 q; no_two_octet = no_pair 9 8 r; no_single = no_pair 14 10 s }) refl

      by_valid : (v : Bool) → is_valid d.state ≡ v
          → Reads d (if not v then Unreadable else if is_of 1 0 d then Switch (is_yes (octet 0 d)) else if is_of 5 7 d then Count (octet 0 d) else if is_of 9 8 d then two_octet_reading (octet 0 d) (octet 1 d) else if is_of 14 10 d then single_reading (as_single d) else Unreadable)
      by_valid true v = by_pairs v (is_of 1 0 d) (is_of 5 7 d) (is_of 9 8 d) (is_of 14 10 d) refl refl refl refl
      by_valid false v = Reads.not_valid v refl

each_reading : EachReading
each_reading d r = (reads_so d r, λ (e : reading_of d ≡ r). subst (Reads d) e (reads d))

-- ---- what a reading carries
module _ (d : Datapoint) (bytes : T (are_bytes d.value)) where
  abbrev word : ℕ
  word = of_four_bytes (octet 0 d) (octet 1 d) (octet 2 d) (octet 3 d)

  -- what is said of the floating value, in the case that it belongs to
  abbrev Carries : Reading → Type 0
  Carries (Switch on) = Unit {0}
  Carries (Count n) = Unit {0}
  Carries (TwoOctet x) = Near x (hundredths (octet 0 d) (octet 1 d))
  Carries (Single x) = to_bits binary32 x ≡ word
  Carries Unreadable = Unit {0}

  word_below : word < 4294967296
  word_below = omega (arith, bytes_at d.value 0 bytes, bytes_at d.value 1 bytes, bytes_at d.value 2 bytes, bytes_at d.value 3 bytes)

  carries : (r : Reading) → Reads d r → Carries r
  carries r (Reads.switch k e) = subst Carries (sym e) tt
  carries r (Reads.count k e) = subst Carries (sym e) tt
  carries r (Reads.two_octet_value k n e) = subst Carries (sym e) (two_octet_near (octet 0 d) (octet 1 d) (bytes_at d.value 1 bytes))
  carries r (Reads.single k n e) = subst Carries (sym e) (to_bits-of_bits binary32 word word_below (finite_number (as_single d) (not_special (as_single d) n)))
  carries r (Reads.is_7FFF k n e) = subst Carries (sym e) tt
  carries r (Reads.special k n e) = subst Carries (sym e) tt
  carries r (Reads.other_pair o e) = subst Carries (sym e) tt
  carries r (Reads.not_valid v e) = subst Carries (sym e) tt

each_near : EachNear
each_near d x bytes e = carries d bytes (TwoOctet x) ((each_reading d (TwoOctet x)).1 e)

each_single : EachSingle
each_single d x bytes e = carries d bytes (Single x) ((each_reading d (Single x)).1 e)

-- ---- what is given for an ID
-- the other tables are empty, and there is no list of texts
no_texts : text_lists_ok no_text_lists ≡ true
unfolding text_lists_ok text_list_ok rise_from entries_at entries_from bytes_taken
no_texts = refl

no_items : table_ok 64 item_id item_ok [] ≡ true
unfolding table_ok rising
no_items = refl

as_before : (ds : List Datapoint) → well_formed (datapoints_only ds) ≡ table_ok 1000 datapoint_id datapoint_ok ds
unfolding well_formed
as_before ds = simp (no_items, no_texts, and-true)

-- the record that has the ID is found, and no other
found_standing : (id last : ℕ) (ds : List Datapoint) (i : ℕ) → T (rising last (map datapoint_id ds)) → Stands id i ds → found datapoint_id id ds ≡ get_or ds i zero_datapoint ∷ []
unfolding found rising
found_standing id last [] i t s = absurd (omega (arith, s.within))
found_standing id last (d ∷ ds) zero t s = rw (eq-eqb d.id id s.its_id) refl
found_standing id last (d ∷ ds) (suc i) t s =
    let rest = right (ltb last d.id) (rising d.id (map datapoint_id ds)) t in
    let l : i < length ds = omega (arith, s.within) in
    let other : d.id ≢ id = λ e. lt_irrefl id (subst (λ (n : ℕ). n < id) e (subst (λ (n : ℕ). d.id < n) s.its_id (above datapoint_id zero_datapoint d.id ds rest i l))) in
    rw (ne_eqb d.id id other) (found_standing id d.id ds i rest (record { within = l; its_id = s.its_id }))

found_none : (id : ℕ) (ds : List Datapoint) → ((i : ℕ) → Stands id i ds → ⊥) → found datapoint_id id ds ≡ []
unfolding found
found_none id [] n = refl
found_none id (d ∷ ds) n =
    rw (ne_eqb d.id id (λ e. n 0 (record { within = omega arith; its_id = e })))
    (found_none id ds (λ i s. n (suc i) (record { within = omega (arith, s.within); its_id = s.its_id })))

each_given : EachReadingGiven
unfolding reading_for reply_of
each_given id ds = record {
  refused_1 = λ e. rw (sym (as_before ds) ∙ e) refl;
  refused_4 = λ e n. rw (sym (as_before ds) ∙ e, found_none id ds n) refl;
  given = λ e i s. rw (sym (as_before ds) ∙ e, found_standing id 0 ds i (ids_rise datapoint_id 1000 datapoint_ok ds (true_T (sym (as_before ds) ∙ e))) s) refl;
}

-- ---- what is not looked at
still_valid : (s : ℕ) → without_updated s / 16 % 2 ≡ s / 16 % 2
still_valid s = omega arith

read_alike : EachReadAlike
unfolding reading_of handed_out with_state with_mark with_flags
read_alike d = record {
  answered = rw (still_valid d.state) refl;
  indicated = rw (still_valid d.state) refl;
  any_flags = λ flags. refl;
}

-- ---- together
pub engineering_readings : EngineeringReadings
engineering_readings = record {
  each_bits = two_octet_bits;
  each_value = two_octet_value;
  ends_reached = ends_reached;
  each_reading = each_reading;
  special_by_bits = special_by_bits;
  each_near = each_near;
  each_single = each_single;
  each_given = each_given;
  read_alike = read_alike;
  numbers_tell = record { a_reading = reading_told; a_reply = reading_reply_told };
}

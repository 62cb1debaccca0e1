-- The numbers of a reading, and of what is given for an ID, determine it: it is had back from them. The floating one is
-- a number.
use Prim.Native.Nat.{ℕ, zero, suc, ◌+◌, ◌*◌, ◌^◌}
use mathlib.Core.Path.{◌≡◌, refl, sym, ap, ◌∙◌}
use mathlib.Core.Bool.{Bool, true, false, not, cond}
use mathlib.Core.List.{List, [], ◌∷◌}
use lib.Dec.{T, eqb, ltb}
use lib.IntN.{ℤ, pos, negsuc}
use lib.Ieee.{Float, nan, inf, fin, Format, prec, emax, low, binary32, odd, units, round, is_nan}
use Rattle.std.specs.Prelude.{if◌then◌else◌, Result, Ok, Err}
use Rattle.std.specs.Result.{MatchResult, IsErrAnd}
use Rattle.words.specs.Words.{is_yes, of_two_bytes}
use Rattle.words.proofs.WordLaws.{read_written}
use Rattle.dpt.specs.declared.reading.Reading.{Reading}
use Rattle.dpt.specs.declared.reading.Reading.TheVariants.{Switch, Count, TwoOctet, Single, Unreadable}
use Rattle.dpt.specs.declared.reading.ReadingRefusal.{ReadingRefusal}
use Rattle.dpt.specs.Reply.{ReadingReply, Refused, Given, reading_refusal_number, reading_reply_of, reading_reply_by}
use Rattle.dpt.specs.declared.reading.ReadingNumbers.{ReadingNumbers}
use Rattle.baos.specs.declared.datapoint.Datapoint.{Datapoint}
use Rattle.baos.specs.Datapoint.{datapoint_id, datapoint_ok, is_valid}
use Rattle.baos.specs.Table.{table_ok, found}
use Rattle.dpt.specs.TwoOctet.{divided_by100, two_octet}
use Rattle.dpt.specs.Single.{of_four_bytes, single}
use Rattle.dpt.specs.Reading.{two_octet_reading, single_reading, is_of, octet, reading_of, reply_of, reading_for}
use Rattle.dpt.specs.Numbers.{reading_numbers, reading_reply_numbers}
use Rattle.dpt.proofs.ReadingLaws.{finite_number, odd_finite}

-- ---- a reading
of_case : ℕ → ReadingNumbers → Reading
of_case k n =
    if eqb k 1 then Switch (is_yes n.whole)
    else if eqb k 2 then Count n.whole
    else if eqb k 3 then TwoOctet n.value
    else if eqb k 4 then Single n.value
    else Unreadable

reading_back : ReadingNumbers → Reading
reading_back n = go n.number
  where
    go : ℤ → Reading
    go (pos k) = of_case k n
    go (negsuc k) = Unreadable

reading_back_lem : (r : Reading) → reading_back (reading_numbers r) ≡ r
unfolding reading_numbers reading_back of_case
reading_back_lem (Switch on) = ap Switch (read_written on)
reading_back_lem (Count n) = refl
reading_back_lem (TwoOctet x) = refl
reading_back_lem (Single x) = refl
reading_back_lem Unreadable = refl

pub reading_told : (r q : Reading) → reading_numbers r ≡ reading_numbers q → r ≡ q
reading_told r q e = sym (reading_back_lem r) ∙ ap reading_back e ∙ reading_back_lem q

-- ---- what is given for an ID
reply_back : ReadingNumbers → ReadingReply
reply_back n = go n.number
  where
    go : ℤ → ReadingReply
    go (pos zero) = Refused 0
    go (pos (suc k)) = Given (reading_back n)
    go (negsuc k) = Refused (suc k)

reply_back_lem : (r : ReadingReply) → reply_back (reading_reply_numbers r) ≡ r
unfolding reading_reply_numbers reading_numbers reply_back
reply_back_lem (Refused zero) = refl
reply_back_lem (Refused (suc n)) = refl
reply_back_lem (Given (Switch on)) = ap Given (reading_back_lem (Switch on))
reply_back_lem (Given (Count n)) = ap Given (reading_back_lem (Count n))
reply_back_lem (Given (TwoOctet x)) = ap Given (reading_back_lem (TwoOctet x))
reply_back_lem (Given (Single x)) = ap Given (reading_back_lem (Single x))
reply_back_lem (Given Unreadable) = ap Given (reading_back_lem Unreadable)

pub reading_reply_told : (r q : ReadingReply) → reading_reply_numbers r ≡ reading_reply_numbers q → r ≡ q
reading_reply_told r q e = sym (reply_back_lem r) ∙ ap reply_back e ∙ reply_back_lem q

-- ---- the floating number is one
abbrev IsNumber : Float → Type 0
IsNumber x = T (not (is_nan x))

unfoldable HasNumber : Reading → Type 0
HasNumber r = IsNumber (reading_numbers r).value

-- what a fraction is rounded to: infinite, at most
or_infinite : (b s : Bool) (x : Float) → IsNumber x → IsNumber (cond b x (inf s))
unfolding is_nan
or_infinite true s x h = h
or_infinite false s x h = tt

units_number : (f : Format) (s : Bool) (q k : ℕ) → IsNumber (units f s q k)
unfolding units
units_number f s q k =
    or_infinite (ltb (q * 2 ^ k) (2 ^ (low f + suc (emax f)))) s (odd (suc (prec f)) s q k (low f)) (finite_number (odd (suc (prec f)) s q k (low f)) (odd_finite (suc (prec f)) s q k (low f)))

round_number : (f : Format) (s : Bool) (n d : ℕ) → IsNumber (round f s n d)
unfolding round
round_number f s n d = units_number f s _ _

two_octet_number : (high low : ℕ) → HasNumber (two_octet_reading high low)
unfolding HasNumber reading_numbers two_octet_reading two_octet divided_by100 is_nan
two_octet_number high low = go (eqb (of_two_bytes high low) 0x7FFF)
  where
    go : (b : Bool) → HasNumber (if b then Unreadable else TwoOctet (two_octet high low))
    go true = tt
    go false = round_number binary32 _ _ 100

single_number : (x : Float) → HasNumber (single_reading x)
unfolding HasNumber reading_numbers single_reading is_nan
single_number nan = tt
single_number (inf s) = tt
single_number (fin s m e) = tt

reading_number : (d : Datapoint) → HasNumber (reading_of d)
unfolding HasNumber reading_numbers reading_of is_nan
reading_number d = go (is_valid d.state) (is_of 1 0 d) (is_of 5 7 d) (is_of 9 8 d) (is_of 14 10 d)
  where
    four : Float
    four = single (of_four_bytes (octet 0 d) (octet 1 d) (octet 2 d) (octet 3 d))

    go : (v s c t f : Bool) → HasNumber (if not v then Unreadable else if s then Switch (is_yes (octet 0 d)) else if c then Count (octet 0 d) else if t then two_octet_reading (octet 0 d) (octet 1 d) else if f then single_reading four else Unreadable)
    go false s c t f = tt
    go true true c t f = tt
    go true false true t f = tt
    go true false false true f = two_octet_number (octet 0 d) (octet 1 d)
    go true false false false true = single_number four
    go true false false false false = tt

pub reply_number_lem : (id : ℕ) (ds : List Datapoint) → T (not (is_nan (reading_reply_numbers (reading_for id ds)).value))
unfolding reading_for reading_reply_numbers reply_of HasNumber is_nan
reply_number_lem id ds = go (table_ok 1000 datapoint_id datapoint_ok ds) (found datapoint_id id ds)
  where
    go : (b : Bool) (es : List Datapoint) → IsNumber (reading_reply_numbers (if b then reply_of es else Refused 1)).value
    go true [] = tt
    go true (d ∷ es) = reading_number d
    go false es = tt

-- ---- the refusal by its number says the same
pub by_number : (r : Result Reading ReadingRefusal) (s : Result Reading ℕ) → MatchResult r (λ x. s ≡ Ok x) (λ e. IsErrAnd s (λ n. n ≡ reading_refusal_number e)) → reading_reply_by s ≡ reading_reply_of r
by_number (Ok x) s m = ap reading_reply_by m
by_number (Err e) (Ok x) m = absurd m
by_number (Err e) (Err n) m = ap Refused m

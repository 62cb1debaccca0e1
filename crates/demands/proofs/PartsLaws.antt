-- Where a set request may be cut: behind each of its entries, and so often that each part fits in a frame.
use Prim.Native.Nat.{ℕ, zero, suc, ◌+◌, ◌-◌, ◌/◌, ◌%◌, ◌≤◌, ◌<◌}
use mathlib.Core.Path.{◌≡◌, refl, sym, ◌∙◌, ap, subst}
use mathlib.Core.Bool.{true, not, ◌&&◌}
use mathlib.Core.List.{List, [], ◌∷◌, ◌++◌}
use native.Mathlib.Omega.{arith}
use lib.ListN.{length, get_or, take, drop, take-append-drop, length-drop, drop_of_length-le}
use lib.Seq.{length-take-le, take-append_seam, drop-append_seam, take-add, get_or-take}
use lib.Dec.{T, leb, eqb, le→leb, leb→le}
use borrow.Author.Tests.{le-ltb}
use Rattle.words.specs.Words.{every, are_bytes}
use Rattle.words.proofs.WordLaws.{left, true_T, T_true, empty_eq, every_imp, bytes_at, bytes_take, bytes_drop, byte_first}
use Rattle.baos.specs.Table.{Tables, well_formed}
use Rattle.baos.specs.Message.{main_service, sub_service, start_of, number_of}
use Rattle.baos.specs.Set.{SetEntry, first_item_entry, first_datapoint_entry, span, fills, set_entries, all_short}
use Rattle.baos.specs.Service.{unanswered, carried_out}
use Rattle.baos.proofs.LeftLaws.{fills_one, datapoints_short, items_short}
use Rattle.baos.proofs.CutLaws.{span-append, behind_entry, one_more, fills-append}
use Rattle.baos.proofs.KeepLaws.{parts, carried_out_keeps}
use Rattle.baos.proofs.ServiceLaws.{answered_long, answered_main}
use Rattle.demands.specs.Exchange.{Request}
use Rattle.demands.specs.Cutting.{SetService, SetServerItem, SetDatapointValue, sub_of, head_of, first_set_entry, asks_to_set, set_entries_in, Accepted, PartsOf, bytes_of_first, request_of, first_part, second_part}
use Rattle.demands.specs.Cutting.{AtEachBoundary, NowhereElse, CutInto, uncut, again, EachRequest, after_each, CutAgain, CutToFit, CuttingSets}
use Rattle.demands.proofs.CuttingLaws.{head_some, answered, sub_is, passed, cut_law, order_law, each_accepted_or_refused, join, answers_stay, judge}

-- ---- how many bytes the first entries have
module _ (h : ℕ) (pos : 1 ≤ h) where
  -- entries that fill their bytes have just these
  first_next : (n : ℕ) (x y : List ℕ) → span h x ≤ length x → bytes_of_first h n (drop (span h x) x ++ y) ≡ length (drop (span h x) x) → bytes_of_first h (suc n) (x ++ y) ≡ length x
  unfolding bytes_of_first
  first_next n x y fits r =
      ap (λ (k : ℕ). span h (x ++ y) + k) (ap (bytes_of_first h n) (behind_entry h pos x y fits) ∙ r)
      ∙ ap (λ (k : ℕ). k + length (drop (span h x) x)) (span-append h pos x y fits)
      ∙ omega (arith, fits, length-drop (span h x) x)

  first_append : (n : ℕ) (x y : List ℕ) → fills h n x ≡ true → bytes_of_first h n (x ++ y) ≡ length x
  first_append zero x y e = rw (empty_eq x (unfold fills in e)) (unfold bytes_of_first in refl)
  first_append (suc n) x y e =
      let o = fills_one h n x e in
      first_next n x y o.0 (first_append n (drop (span h x) x) y o.1)

  -- an entry fills its own bytes
  one_entry : (x : List ℕ) → span h x ≤ length x → fills h 1 (take (span h x) x) ≡ true
  one_entry x fits =
      one_more h pos 0 (take (span h x) x) (omega (arith, same, long))
      ∙ ap (fills h 0) (drop_of_length-le (take (span h x) x) {i = span h (take (span h x) x)} (omega (arith, same, long)))
      ∙ unfold fills in refl
    where
      long : length (take (span h x) x) ≡ span h x
      long = length-take-le (span h x) x fits

      same : span h (take (span h x) x) ≡ span h x
      same = unfold span in ap (λ (b : ℕ). h + b) (get_or-take (h + get_or x (h - 1) 0) x (h - 1) 0 (omega (arith, pos)))

  -- what more entries fill, the first ones fill up to where they end
  ends_next : (n : ℕ) (x : List ℕ) → span h x ≤ length x
      → fills h n (take (bytes_of_first h n (drop (span h x) x)) (drop (span h x) x)) ≡ true → fills h (suc n) (take (bytes_of_first h (suc n) x) x) ≡ true
  unfolding bytes_of_first
  ends_next n x fits r =
      let p : ℕ = bytes_of_first h n (drop (span h x) x) in
      (λ i. fills h (next i) (take-add (span h x) p x i))
      ∙ fills-append h pos 1 n (take (span h x) x) (take p (drop (span h x) x)) (one_entry x fits)
      ∙ r
    where
      next : suc n ≡ 1 + n
      next = omega arith

  ends : (n k : ℕ) (x : List ℕ) → fills h (n + k) x ≡ true → fills h n (take (bytes_of_first h n x) x) ≡ true
  ends zero k x e = unfold bytes_of_first fills in refl
  ends (suc n) k x e =
      let o = fills_one h (n + k) x (ap (λ (i : ℕ). fills h i x) {x = suc (n + k)} {y = suc n + k} (omega arith) ∙ e) in
      ends_next n x o.0 (ends n k (drop (span h x) x) o.1)

-- ---- a request that was put together
sub_low : (s : SetService) → sub_of s < 256
unfolding sub_of
sub_low SetServerItem = omega arith
sub_low SetDatapointValue = omega arith

module _ (s : SetService) (start number : ℕ) (entries : List ℕ) where
  request_asks : T (asks_to_set s (request_of s start number entries))
  unfolding asks_to_set request_of unanswered main_service sub_service sub_of
  request_asks = simp (le-ltb (suc (suc (suc (suc (suc (suc (length entries))))))) 6 (omega arith)) (below s)
    where
      below : (r : SetService) → T (not (leb 0x80 (sub_of r)) && eqb (sub_of r) (sub_of r))
      below SetServerItem = tt
      below SetDatapointValue = tt

  request_start : start_of (request_of s start number entries) ≡ start
  unfolding request_of start_of
  request_start = omega arith

  request_number : number_of (request_of s start number entries) ≡ number
  unfolding request_of number_of
  request_number = omega arith

  request_entries : drop 6 (request_of s start number entries) ≡ entries
  unfolding request_of
  request_entries = refl

  request_bytes : start < 65536 → number < 65536 → T (are_bytes entries) → T (are_bytes (request_of s start number entries))
  unfolding request_of
  request_bytes a b e =
      byte_first _ _ (omega arith)
      (byte_first _ _ (sub_low s) (byte_first _ _ (omega (arith, a)) (byte_first _ _ (omega arith) (byte_first _ _ (omega (arith, b)) (byte_first _ _ (omega arith) e)))))

-- ---- the parts behind n entries
module _ (s : SetService) (m : List ℕ) (n start₁ start₂ : ℕ) where
  abbrev at : ℕ
  at = bytes_of_first (head_of s) n (drop 6 m)

  first_number : number_of (first_part s n start₁ m) ≡ n
  unfolding first_part
  first_number = request_number s start₁ n (take at (drop 6 m))

  second_number : number_of (second_part s n start₂ m) ≡ number_of m - n
  unfolding second_part
  second_number = request_number s start₂ (number_of m - n) (drop at (drop 6 m))

  parts_behind : T (asks_to_set s m) → fills (head_of s) (number_of m) (drop 6 m) ≡ true → 1 ≤ n → n < number_of m → PartsOf s m (first_part s n start₁ m) (second_part s n start₂ m)
  unfolding first_part second_part
  parts_behind a f some more =
      let end = ends (head_of s) (head_some s) n (number_of m - n) (drop 6 m) (ap (λ (k : ℕ). fills (head_of s) k (drop 6 m)) {x = n + (number_of m - n)} {y = number_of m} (omega (arith, more)) ∙ f) in
      record {
        whole = a;
        first = request_asks s start₁ n (take at (drop 6 m));
        second = request_asks s start₂ (number_of m - n) (drop at (drop 6 m));
        bytes = sym (take-append-drop at (drop 6 m)) ∙ sym (λ i. request_entries s start₁ n (take at (drop 6 m)) i ++ request_entries s start₂ (number_of m - n) (drop at (drop 6 m)) i);
        boundary = true_T ((λ i. fills (head_of s) (first_number i) (request_entries s start₁ n (take at (drop 6 m)) i)) ∙ end);
        numbers = omega (arith, first_number, second_number, more);
        some_first = omega (arith, first_number, some);
        some_second = omega (arith, second_number, more);
      }

number_bound : (m : List ℕ) → T (are_bytes m) → number_of m < 65536
unfolding number_of
number_bound m b = omega (arith, bytes_at m 4 b, bytes_at m 5 b)

start_bound : (m : List ℕ) → T (are_bytes m) → start_of m < 65536
unfolding start_of
start_bound m b = omega (arith, bytes_at m 2 b, bytes_at m 3 b)

pub at_each_boundary : AtEachBoundary
unfolding first_part second_part
at_each_boundary s m n start₁ start₂ a filled some more =
    record {
      parts = parts_behind s m n start₁ start₂ a (T_true (fills (head_of s) (number_of m) (drop 6 m)) filled) some more;
      starts = (request_start s start₁ n (take here (drop 6 m)), request_start s start₂ (number_of m - n) (drop here (drop 6 m)));
      of_bytes = λ b low₁ low₂. (
        request_bytes s start₁ n (take here (drop 6 m)) low₁ (omega (arith, more, number_bound m b)) (bytes_take here (drop 6 m) (bytes_drop 6 m b)),
        request_bytes s start₂ (number_of m - n) (drop here (drop 6 m)) low₂ (omega (arith, number_bound m b)) (bytes_drop here (drop 6 m) (bytes_drop 6 m b)),
      );
    }
  where
    here : ℕ
    here = bytes_of_first (head_of s) n (drop 6 m)

-- ---- a request of bytes is its service, start, number and entries
six : (m : List ℕ) → 6 ≤ length m → get_or m 0 0 ∷ get_or m 1 0 ∷ get_or m 2 0 ∷ get_or m 3 0 ∷ get_or m 4 0 ∷ get_or m 5 0 ∷ drop 6 m ≡ m
six (a ∷ b ∷ c ∷ d ∷ e ∷ f ∷ rest) l = refl
six [] l = absurd (omega (arith, l))
six (a ∷ []) l = absurd (omega (arith, l))
six (a ∷ b ∷ []) l = absurd (omega (arith, l))
six (a ∷ b ∷ c ∷ []) l = absurd (omega (arith, l))
six (a ∷ b ∷ c ∷ d ∷ []) l = absurd (omega (arith, l))
six (a ∷ b ∷ c ∷ d ∷ e ∷ []) l = absurd (omega (arith, l))

module _ (s : SetService) (m : List ℕ) (a : T (asks_to_set s m)) (b : T (are_bytes m)) where
  again_so : request_of s (start_of m) (number_of m) (drop 6 m) ≡ m
  unfolding request_of start_of number_of main_service sub_service
  again_so = (λ i. main i ∷ sub i ∷ start_high i ∷ start_low i ∷ number_high i ∷ number_low i ∷ drop 6 m) ∙ six m (answered_long m (answered s m a))
    where
      main : 0xF0 ≡ get_or m 0 0
      main = sym (answered_main m (answered s m a))

      sub : sub_of s ≡ get_or m 1 0
      sub = sym (sub_is s m a)

      start_high : start_of m / 256 ≡ get_or m 2 0
      start_high = omega (arith, bytes_at m 3 b)

      start_low : start_of m % 256 ≡ get_or m 3 0
      start_low = omega (arith, bytes_at m 3 b)

      number_high : number_of m / 256 ≡ get_or m 4 0
      number_high = omega (arith, bytes_at m 5 b)

      number_low : number_of m % 256 ≡ get_or m 5 0
      number_low = omega (arith, bytes_at m 5 b)

pub nowhere_else : NowhereElse
unfolding first_part second_part
nowhere_else s m m₁ m₂ p b₁ b₂ = (
  sym (again_so s m₁ p.first b₁) ∙ ap (request_of s (start_of m₁) (number_of m₁)) (sym first_bytes),
  sym (again_so s m₂ p.second b₂) ∙ (λ i. request_of s (start_of m₂) (second_count i) (second_bytes i)),
)
  where
    here : ℕ
    here = bytes_of_first (head_of s) (number_of m₁) (drop 6 m)

    ends_there : here ≡ length (drop 6 m₁)
    ends_there =
        ap (bytes_of_first (head_of s) (number_of m₁)) p.bytes
        ∙ first_append (head_of s) (head_some s) (number_of m₁) (drop 6 m₁) (drop 6 m₂) (T_true (fills (head_of s) (number_of m₁) (drop 6 m₁)) p.boundary)

    first_bytes : take here (drop 6 m) ≡ drop 6 m₁
    first_bytes = (λ i. take (ends_there i) (p.bytes i)) ∙ take-append_seam (drop 6 m₁) (drop 6 m₂)

    second_bytes : drop 6 m₂ ≡ drop here (drop 6 m)
    second_bytes = sym ((λ i. drop (ends_there i) (p.bytes i)) ∙ drop-append_seam (drop 6 m₁) (drop 6 m₂))

    second_count : number_of m₂ ≡ number_of m - number_of m₁
    second_count = omega (arith, p.numbers)

-- ---- cut again
pub cut_again : CutAgain
unfolding after_each
cut_again s t m ms (uncut a) = record { accepted = (λ x. (x, tt), λ x. x.0); tables = λ x. refl }
cut_again s t m ms (again {m₁ = m₁} {m₂ = m₂} {ms = rest} p into) =
    let more = cut_again s (carried_out t m₁).after m₂ rest into in
    record {
      accepted = (
        λ x. let two = cut_law s t m m₁ m₂ p x in (two.first, more.accepted.0 two.second),
        λ x. join s t m m₁ m₂ p x.0 (more.accepted.1 x.1),
      );
      tables = λ x. let two = cut_law s t m m₁ m₂ p x in more.tables two.second ∙ two.tables;
    }

-- ---- parts that a frame carries
-- no accepted entry has more bytes of value than a record has room for
values_short : (s : SetService) (t : Tables) (m : List ℕ) → T (well_formed t) → T (asks_to_set s m) → Accepted t m → T (every (λ (e : SetEntry). leb (length e.value) 16) (set_entries_in s m))
unfolding judge head_of first_set_entry set_entries_in all_short
values_short SetServerItem t m w a x = true_T (items_short 64 t.items _ (T_true _ (parts t w).items) (passed SetServerItem t m a x).judged)
values_short SetDatapointValue t m w a x =
    every_imp (λ (e : SetEntry). leb (length e.value) 14) (λ (e : SetEntry). leb (length e.value) 16)
    (λ e q. le→leb (length e.value) 16 (omega (arith, leb→le (length e.value) 14 q))) (set_entries_in SetDatapointValue m)
    (true_T (datapoints_short t.datapoints _ (passed SetDatapointValue t m a x).judged))

-- so that an entry has at most twenty (in truth nineteen; this is enough)
entry_short : (s : SetService) (x : List ℕ) → span (head_of s) x ≤ length x → length (first_set_entry s x).value ≤ 16 → span (head_of s) x ≤ 20
unfolding head_of first_set_entry first_item_entry first_datapoint_entry span
entry_short SetServerItem x fits short = omega (arith, short, length-take-le (get_or x 2 0) (drop 3 x) (omega (arith, fits, length-drop 3 x)))
entry_short SetDatapointValue x fits short = omega (arith, short, length-take-le (get_or x 3 0) (drop 4 x) (omega (arith, fits, length-drop 4 x)))

-- a request with one entry fits in a frame
module _ (s : SetService) (t : Tables) (m : List ℕ) (w : T (well_formed t)) (b : T (are_bytes m)) (a : T (asks_to_set s m)) (x : Accepted t m) where
  one_value : number_of m ≡ 1 → length (first_set_entry s (drop 6 m)).value ≤ 16
  unfolding set_entries_in set_entries
  one_value e =
      leb→le (length (first_set_entry s (drop 6 m)).value) 16
      (left (leb (length (first_set_entry s (drop 6 m)).value) 16) true
      (subst (λ (n : ℕ). T (every (λ (o : SetEntry). leb (length o.value) 16) (set_entries (first_set_entry s) (head_of s) n (drop 6 m)))) e (values_short s t m w a x)))

  one_request : number_of m ≡ 1 → Request m
  unfolding main_service
  one_request e =
      let filled : fills (head_of s) 1 (drop 6 m) ≡ true = ap (λ (n : ℕ). fills (head_of s) n (drop 6 m)) (sym e) ∙ (passed s t m a x).filled in
      let one = fills_one (head_of s) 0 (drop 6 m) filled in
      record {
        first = answered_main m (answered s m a);
        short = omega (arith, entry_short s (drop 6 m) one.0 (one_value e), over one.1, length-drop 6 m);
        bytes = b;
      }
    where
      over : fills (head_of s) 0 (drop (span (head_of s) (drop 6 m)) (drop 6 m)) ≡ true → length (drop 6 m) ≤ span (head_of s) (drop 6 m)
      over f = omega (arith, length-drop (span (head_of s) (drop 6 m)) (drop 6 m), ap length (empty_eq (drop (span (head_of s) (drop 6 m)) (drop 6 m)) (unfold fills in f)))

to_fit_so : (n : ℕ) (s : SetService) (t : Tables) (m : List ℕ) → number_of m ≡ suc n → T (well_formed t) → T (are_bytes m) → T (asks_to_set s m) → Accepted t m
    → (ms : List (List ℕ)) × CutInto s m ms × EachRequest ms
to_fit_so zero s t m e w b a x = (m ∷ [], uncut a, (one_request s t m w b a x e, tt))
to_fit_so (suc n) s t m e w b a x =
    let cut = at_each_boundary s m 1 (start_of m) (start_of m) a (true_T (passed s t m a x).filled) (omega arith) (omega (arith, e)) in
    let m₁ : List ℕ = first_part s 1 (start_of m) m in
    let m₂ : List ℕ = second_part s 1 (start_of m) m in
    let two = cut_law s t m m₁ m₂ cut.parts x in
    let of_bytes = cut.of_bytes b (start_bound m b) (start_bound m b) in
    let rest = to_fit_so n s (carried_out t m₁).after m₂ (second_number s m 1 (start_of m) (start_of m) ∙ omega (arith, e)) (carried_out_keeps t m₁ w) of_bytes.1 cut.parts.second two.second in
    (m₁ ∷ rest.0, again cut.parts rest.1, (one_request s t m₁ w of_bytes.0 cut.parts.first two.first (first_number s m 1 (start_of m) (start_of m)), rest.2))

pub to_fit : CutToFit
to_fit s t m w b a x = to_fit_so (number_of m - 1) s t m (omega (arith, (passed s t m a x).some)) w b a x

pub cutting_sets : CuttingSets
cutting_sets =
    record {
      cut = cut_law;
      order = order_law;
      accepted_or_refused = each_accepted_or_refused;
      at_each_boundary = at_each_boundary;
      nowhere_else = nowhere_else;
      again = cut_again;
      to_fit = to_fit;
      answers_stay = answers_stay;
    }

-- Every answer and every indication has at least 7 and at most 254 bytes.
use Prim.Native.Nat.{ℕ, suc, ◌+◌, ◌-◌, ◌≤◌}
use mathlib.Core.Path.{◌≡◌, refl, sym, ap}
use mathlib.Core.Bool.{Bool, true, false, not, ◌||◌}
use mathlib.Core.List.{List, [], ◌∷◌, map, flatten}
use native.Mathlib.Omega.{arith}
use lib.ListN.{length, get_or, length-append}
use lib.Dec.{T, leb, ltb, eqb, leb→le, le→leb}
use borrow.Author.Tests.{ltb-false, leb-true}
use Rattle.std.specs.Prelude.{if◌then◌else◌}
use Rattle.words.specs.Words.{is_yes, is_empty, every, keep}
use Rattle.words.proofs.WordLaws.{left, true_T, every_map, every_true, every-keep}
use Rattle.baos.specs.declared.datapoint.Datapoint.{Datapoint}
use Rattle.baos.specs.declared.item.Item.{Item}
use Rattle.baos.specs.Text.{TextLists}
use Rattle.baos.specs.Table.{Tables}
use Rattle.baos.specs.Message.{sub_service, start_of, number_of, filter_of, coded, Finding, fine, bad, Served, answer_of, served}
use Rattle.baos.specs.Get.{AnswerEntry, in_request, overflow, room_for_entries, listing, get_finding, getting, item_entry, get_server_item, description_entry, get_datapoint_description, string_of, string_entry, get_description_string, value_entry, asked, get_datapoint_value, parameter_entries, get_parameter_byte}
use Rattle.baos.specs.Set.{SetEntry, set_finding, setting, set_server_item, set_datapoint_value, set_parameter_finding, set_parameter_byte}
use Rattle.baos.specs.Service.{service, carried_out}
use Rattle.baos.specs.Indication.{needs, goes, room_after, choices, reported, indication_of, indication}
use Rattle.baos.proofs.DispatchLaws.{by_service, by_message}

-- the length of an answer; the empty list is no answer
pub data Sized (a : List ℕ) : Type 0 where
  none : a ≡ [] → Sized a
  some : 7 ≤ length a → length a ≤ 254 → Sized a

pub coded_sized : (m : List ℕ) (id code : ℕ) → Sized (coded m id code)
unfolding coded
coded_sized m id code = some (omega arith) (omega arith)

-- ---- listings
abbrev entry_bytes : List AnswerEntry → List ℕ
entry_bytes es = flatten (map (λ (e : AnswerEntry). e.bytes) es)

listing-length : (sub start : ℕ) (es : List AnswerEntry) → length (listing sub start es) ≡ 6 + length (entry_bytes es)
unfolding listing
listing-length sub start es = omega arith

fits_all : (room : ℕ) (es : List AnswerEntry) → T (is_empty (overflow room es)) → length (entry_bytes es) ≤ room
unfolding overflow flatten
fits_all room [] t = omega arith
fits_all room (e ∷ es) t = go (ltb room (length e.bytes)) refl (fits_all (room - length e.bytes) es)
  where
    go : (u : Bool) → ltb room (length e.bytes) ≡ u → (T (is_empty (overflow (room - length e.bytes) es)) → length (entry_bytes es) ≤ room - length e.bytes) → length (entry_bytes (e ∷ es)) ≤ room
    go true d r = absurd (simp d at t)
    go false d r = omega (arith, length-append e.bytes (entry_bytes es), ltb-false room (length e.bytes) d, r (simp d at t))

-- an entry has bytes
abbrev has_bytes : AnswerEntry → Bool
has_bytes e = leb 1 (length e.bytes)

some_bytes : (es : List AnswerEntry) → is_empty es ≡ false → T (every has_bytes es) → 1 ≤ length (entry_bytes es)
unfolding flatten
some_bytes [] e t = absurd (true_T (sym e))
some_bytes (x ∷ es) e t = omega (arith, length-append x.bytes (entry_bytes es), leb→le 1 (length x.bytes) (left (has_bytes x) (every has_bytes es) t))

listing_sized : (sub start : ℕ) (es : List AnswerEntry) → is_empty es ≡ false → T (every has_bytes es) → T (is_empty (overflow room_for_entries es)) → Sized (listing sub start es)
listing_sized sub start es e h t = some (omega (arith, listing-length sub start es, some_bytes es e h)) (omega (arith, listing-length sub start es, fits_all room_for_entries es t))

get_sized : (size : ℕ) (badFilter : Bool) (es : List AnswerEntry) (t t' : Tables) (m : List ℕ) → T (every has_bytes es) → Sized (getting size badFilter es t t' m).says
unfolding getting get_finding served answer_of
get_sized size badFilter es t t' m h =
    go (not (eqb (length m) size)) (eqb (number_of m) 0 || badFilter) (is_empty es) (is_empty (overflow room_for_entries es)) refl refl refl refl
  where
    go : (u v w x : Bool) → not (eqb (length m) size) ≡ u → (eqb (number_of m) 0 || badFilter) ≡ v → is_empty es ≡ w → is_empty (overflow room_for_entries es) ≡ x → Sized (getting size badFilter es t t' m).says
    go true v w x a b c d = simp a (coded_sized m (start_of m) 10)
    go false true w x a b c d = simp (a, b) (coded_sized m (start_of m) 6)
    go false false true x a b c d = simp (a, b, c) (coded_sized m (start_of m) 2)
    go false false false true a b c d = simp (a, b, c, d) (listing_sized (sub_service m + 0x80) (start_of m) es c h (true_T d))
    go false false false false a b c d = simp (a, b, c, d) (coded_sized m (get_or (overflow room_for_entries es) 0 0) 3)

set_answer_sized : (f : Finding) (m : List ℕ) → Sized (answer_of f m (coded m (start_of m) 0))
unfolding answer_of
set_answer_sized fine m = coded_sized m (start_of m) 0
set_answer_sized (bad id code) m = coded_sized m id code

set_sized : (h : ℕ) (first : List ℕ → SetEntry) (judge : SetEntry → ℕ) (done : List SetEntry → Tables) (t : Tables) (m : List ℕ) → Sized (setting h first judge done t m).says
unfolding setting served
set_sized h first judge done t m = set_answer_sized (set_finding h first judge m) m

-- ---- each service's entries have bytes
items_have : (p : Item → Bool) (xs : List Item) → T (every has_bytes (map item_entry (keep p xs)))
unfolding item_entry
items_have p xs = every_map item_entry has_bytes (λ (x : Item). true) (λ x t. le→leb 1 (length (item_entry x).bytes) (omega arith)) (keep p xs) (every_true (keep p xs))

descriptions_have : (p : Datapoint → Bool) (xs : List Datapoint) → T (every has_bytes (map description_entry (keep p xs)))
unfolding description_entry
descriptions_have p xs = every_map description_entry has_bytes (λ (x : Datapoint). true) (λ x t. tt) (keep p xs) (every_true (keep p xs))

strings_have : (ts : TextLists) (p : Datapoint → Bool) (xs : List Datapoint) → T (every has_bytes (map (string_entry ts) (keep p xs)))
unfolding string_entry string_of
strings_have ts p xs = every_map (string_entry ts) has_bytes (λ (x : Datapoint). true) (λ x t. le→leb 1 (length (string_entry ts x).bytes) (omega arith)) (keep p xs) (every_true (keep p xs))

pub values_have : (xs : List Datapoint) → T (every has_bytes (map value_entry xs))
unfolding value_entry
values_have xs = every_map value_entry has_bytes (λ (x : Datapoint). true) (λ x t. le→leb 1 (length (value_entry x).bytes) (omega arith)) xs (every_true xs)

parameters_have : (n : ℕ) (xs : List ℕ) → T (every has_bytes (parameter_entries n xs))
unfolding parameter_entries
parameters_have n [] = tt
parameters_have n (x ∷ xs) = parameters_have (suc n) xs

-- ---- every answer
service_sized : (t : Tables) (m : List ℕ) → Sized (service t m).says
unfolding get_server_item set_server_item get_datapoint_description get_description_string get_datapoint_value set_datapoint_value get_parameter_byte
service_sized t m =
    by_service (λ (s : Served). Sized s.says) t m
    (λ e. get_sized 6 false _ t t m (items_have _ t.items))
    (λ e. set_sized 3 _ _ _ t m)
    (λ e. get_sized 6 false _ t t m (descriptions_have _ t.datapoints))
    (λ e. get_sized 6 false _ t t m (strings_have t.texts _ t.datapoints))
    (λ e. get_sized 7 (ltb 2 (filter_of m)) _ t _ m (values_have (keep (asked m) t.datapoints)))
    (λ e. set_sized 4 _ _ _ t m)
    (λ e. get_sized 6 false _ t t m (parameters (eqb (start_of m) 0)))
    (λ e. unfold set_parameter_byte served in set_answer_sized (set_parameter_finding (length t.parameters) m) m)
    (coded_sized m (start_of m) 5)
  where
    parameters : (u : Bool) → T (every has_bytes (if u then [] else keep (λ (e : AnswerEntry). in_request m e.id) (parameter_entries 1 t.parameters)))
    parameters true = tt
    parameters false = every-keep (λ (e : AnswerEntry). in_request m e.id) has_bytes (parameter_entries 1 t.parameters) (parameters_have 1 t.parameters)

pub answer_sized : (t : Tables) (m : List ℕ) → Sized (carried_out t m).says
answer_sized t m = by_message (λ (s : Served). Sized s.says) t m (none refl) (service_sized t m)

-- ---- every indication
chosen_bytes : ℕ → List Datapoint → List ℕ
chosen_bytes room ds = entry_bytes (map value_entry (reported (choices room ds)))

reported_fits : (room : ℕ) (ds : List Datapoint) → length (chosen_bytes room ds) ≤ room
unfolding chosen_bytes reported choices goes room_after needs flatten
reported_fits room [] = omega arith
reported_fits room (d ∷ ds) = go (is_yes d.mark) (leb (needs d) room) refl refl (reported_fits (room_after room d) ds)
  where
    go : (u v : Bool) → is_yes d.mark ≡ u → leb (needs d) room ≡ v → length (chosen_bytes (room_after room d) ds) ≤ room_after room d → length (chosen_bytes room (d ∷ ds)) ≤ room
    go false v e c r = simp e (simp e at r)
    go true false e c r = simp (e, c) (omega (arith, simp (e, c) at r))
    go true true e c r =
        simp (e, c) (omega (arith, simp (e, c) at r, leb-true (needs d) room c, length-append (value_entry d).bytes (chosen_bytes (room - needs d) ds)))

pub entries_fit : (room : ℕ) (ds : List Datapoint) → length (entry_bytes (map value_entry (reported (choices room ds)))) ≤ room
unfolding chosen_bytes
entries_fit room ds = reported_fits room ds

pub indication_sized : (t : Tables) → Sized (indication t).says
unfolding indication chosen_bytes
indication_sized t = go (reported (choices room_for_entries t.datapoints)) (reported_fits room_for_entries t.datapoints)
  where
    go : (ds : List Datapoint) → length (entry_bytes (map value_entry ds)) ≤ room_for_entries → Sized (indication_of ds)
    go [] h = unfold indication_of in none refl
    go (d ∷ ds) h =
        unfold indication_of in
        some (omega (arith, listing-length 0xC1 d.id (map value_entry (d ∷ ds)), some_bytes (map value_entry (d ∷ ds)) refl (values_have (d ∷ ds))))
        (omega (arith, listing-length 0xC1 d.id (map value_entry (d ∷ ds)), h))

-- what the link asks of a message that it takes back
pub sized_short : (a : List ℕ) → Sized a → length a ≤ 254
sized_short a (none e) = omega (arith, ap length e)
sized_short a (some p q) = q

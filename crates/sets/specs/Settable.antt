-- What a set request is generic over, and where its entries begin and belong. Inner contracts alone cite these; what a
-- set has to do is said by Set.
use Rattle.std.specs.Prelude.{ℕ, zero, suc, ◌+◌, ◌≡◌, ◌≤◌, ◌<◌, Bool, true, List, [], length, get_or, drop}
use Rattle.std.proofs.Common.{refl, lit≤}
use Rattle.words.specs.Words.{of_two_bytes}
use Rattle.baos.specs.Datapoint.{datapoint_id, datapoint_ok}
use Rattle.baos.specs.Item.{item_id, item_ok}
use Rattle.baos.specs.Lookup.{lookup_of, is_present}
use Rattle.baos.specs.Message.{number_of, fine}
use Rattle.baos.specs.Table.{found, place, table_ok}
use Rattle.baos.specs.Set.{SetEntry, span, set_entries, first_bad, all_short, datapoint_code}
use Rattle.baos.specs.Set.{first_datapoint_entry, first_item_entry, judged_datapoint, judged_item, set_datapoint, set_item}
use Rattle.baos.proofs.LeftLaws.{datapoint_keeps, item_keeps, datapoints_short, items_short}

-- where entry k of the message m begins: the entries have heads of h bytes, and the first stands behind the message's
unfoldable pub begins : ℕ → List ℕ → ℕ → ℕ
begins h m zero = 6
begins h m (suc k) = begins h m k + span h (drop (begins h m k) m)

-- the entries that a message has, by their number
unfoldable pub entries_of : (List ℕ → SetEntry) → ℕ → List ℕ → List SetEntry
entries_of first h m = set_entries first h (number_of m) (drop 6 m)

-- the first n entries' places in the table xs, as far as the list of places goes: where the records of their IDs belong
pub record Placed {A : Type 0} (id_of : A → ℕ) (first : List ℕ → SetEntry) (h : ℕ) (m : List ℕ) (xs : List A) (n : ℕ)
    (places : List ℕ) : Type 0 where
  pub belongs : (k : ℕ) → k < n → k < length places
      → get_or places k 0 ≡ place id_of (first (drop (begins h m k) m)).id xs

-- What the records that a set changes have in common: an entry begins with the ID, and its head is short; no entry is
-- right for an ID that is absent, nor longer than a record has room for; and a record keeps its ID.
pub record SettableLaws {A : Type 0} (head most room : ℕ) (id_of : A → ℕ) (ok : A → Bool) (first : List ℕ → SetEntry)
    (judged : List A → SetEntry → ℕ) (changed : SetEntry → A → A) : Type 0 where
  pub has_id : 3 ≤ head
  pub is_short : head ≤ 4
  pub few : most ≤ 1000
  pub reads_id : (s : List ℕ) → (first s).id ≡ of_two_bytes (get_or s 0 0) (get_or s 1 0)
  pub absent : (e : SetEntry) → judged [] e ≡ 7
  pub keeps_id : (e : SetEntry) (x : A) → id_of (changed e x) ≡ id_of x
  pub fits : (xs : List A) (es : List SetEntry) → table_ok most id_of ok xs ≡ true
      → first_bad (λ e. judged (found id_of e.id xs) e) es ≡ fine → all_short room es ≡ true

pub datapoint_laws : SettableLaws 4 1000 14 datapoint_id datapoint_ok first_datapoint_entry judged_datapoint set_datapoint
unfolding first_datapoint_entry judged_datapoint datapoint_code lookup_of is_present
datapoint_laws =
    record {
      has_id = lit≤ tt;
      is_short = lit≤ tt;
      few = lit≤ tt;
      reads_id = λ s. refl;
      absent = λ e. refl;
      keeps_id = datapoint_keeps;
      fits = λ xs es t z. datapoints_short xs es z;
    }

pub item_laws : SettableLaws 3 64 16 item_id item_ok first_item_entry judged_item set_item
unfolding first_item_entry judged_item
item_laws =
    record {
      has_id = lit≤ tt;
      is_short = lit≤ tt;
      few = lit≤ tt;
      reads_id = λ s. refl;
      absent = λ e. refl;
      keeps_id = item_keeps;
      fits = λ xs es t z. items_short 64 xs es t z;
    }

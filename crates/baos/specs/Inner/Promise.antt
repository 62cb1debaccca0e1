-- What the functions of the services promise: the buffer to its end, where the bytes end in it, and the tables. Inner
-- contracts alone cite these.
use Rattle.std.specs.Prelude.{ℕ, ◌+◌, ◌≡◌, List, length}
use Rattle.words.specs.Words.{put}
use Rattle.baos.specs.declared.datapoint.Datapoint.{Datapoint}
use Rattle.baos.specs.declared.item.Item.{Item}
use Rattle.baos.specs.declared.inner.Told.{Told}
use Rattle.baos.specs.Message.{Served}
use Rattle.baos.specs.Get.{room_for_entries}
use Rattle.baos.specs.Indication.{choices, reported, after_report}
use Rattle.baos.specs.Inner.Gather.{entries_told}

-- bytes written into the buffer at `at`, which is as it was elsewhere; and where they end
pub record Written (out : List ℕ) (at : ℕ) (bytes : List ℕ) (end : ℕ) (out' : List ℕ) : Type 0 where
  pub buffer : out' ≡ put out at bytes
  pub ends : end ≡ at + length bytes

-- the same with more bytes behind them, which do not count: what follows overwrites those
pub record WrittenWide (out : List ℕ) (at : ℕ) (wide bytes : List ℕ) (end : ℕ) (out' : List ℕ) : Type 0 where
  pub buffer : out' ≡ put out at wide
  pub ends : end ≡ at + length bytes

-- bytes written, and the table as it is to be left
pub record Answered {A : Type 0} (left : List A) (out : List ℕ) (at : ℕ) (bytes : List ℕ) (end : ℕ) (out' : List ℕ)
    (table' : List A) : Type 0 where
  pub table : table' ≡ left
  pub buffer : out' ≡ put out at bytes
  pub ends : end ≡ at + length bytes

-- a message carried out: its answer written, and the tables
pub record Carried (s : Served) (out : List ℕ) (at end : ℕ) (out' : List ℕ) (ds' : List Datapoint) (is' : List Item)
    (ps' : List ℕ) : Type 0 where
  pub datapoints : ds' ≡ s.after.datapoints
  pub items : is' ≡ s.after.items
  pub parameters : ps' ≡ s.after.parameters
  pub buffer : out' ≡ put out at s.says
  pub ends : end ≡ at + length s.says

-- the marked datapoints told as far as they fit: the table, their entries, how many there are and where they end
pub record MarkedTold (ds : List Datapoint) (out : List ℕ) (at : ℕ) (told : Told) (out' : List ℕ)
    (ds' : List Datapoint) : Type 0 where
  pub table : ds' ≡ after_report (choices room_for_entries ds)
  pub buffer : out' ≡ put out at (entries_told (choices room_for_entries ds))
  pub counted : told.count ≡ length (reported (choices room_for_entries ds))
  pub ends : told.end ≡ at + length (entries_told (choices room_for_entries ds))

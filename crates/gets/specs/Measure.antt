-- What the first pass of a get says, as the code has it: an entry's size, or none; the entries found, or a fault. Inner
-- contracts alone cite this; what a pass has to find is said by Gather, of the definitions.
use Rattle.std.specs.Prelude.{ℕ, ◌≡◌, ◌⊎◌, Bool, true, false, length, Option, Some, None, Result, Ok, Err}
use Rattle.baos.specs.declared.inner.Wanted.{Wanted}
use Rattle.baos.specs.Inner.Gather.{Gathered}
use Rattle.baos.specs.declared.inner.Fault.{Fault}
use Rattle.baos.specs.Message.{Finding, verdict_of, fine, bad, code_number}
use Rattle.baos.specs.Get.{AnswerEntry}
use Rattle.baos.specs.Inner.Gather.{is_behind, measured, gathered_verdict}
use Rattle.gets.specs.declared.found.Entries.{Entries}
use Rattle.gets.specs.declared.found.Faulty.{Faulty}

-- how many bytes the entry takes, where it is wanted
abbrev pub size_wanted : Bool → AnswerEntry → Option ℕ
size_wanted true e = Some (length e.bytes)
size_wanted false e = None

-- a record is measured, after those before it
abbrev pub record_step : {A : Type 0} → (A → ℕ) → (Wanted → A → Bool) → (Wanted → A → AnswerEntry) → Wanted → A → Gathered → Gathered
record_step id_of wanted entry w r g = measured (is_behind w (id_of r)) (wanted w r) (entry w r) g

-- rows 2 and 3, by all that the pass has found: the entries where both are fine, else the fault, with the entries found
-- until then
abbrev pub Measured : ℕ → Gathered → Result Entries Faulty → Type 0
Measured start g (Ok e) = (gathered_verdict start g ≡ verdict_of fine) × (e.count ≡ g.count) × (e.size ≡ g.size)
Measured start g (Err s) =
    (gathered_verdict start g ≡ verdict_of (bad s.fault.id (code_number s.fault.code)))
    × (s.found.count ≡ g.count)
    × (s.found.size ≡ g.size)

-- the same behind rows 10 and 6, which come first
abbrev pub Checked : Finding → ℕ → Gathered → Result Entries Fault → Type 0
Checked r start g (Ok e) = (r ≡ fine) × Measured start g (Ok e)
Checked r start g (Err f) = (r ≡ bad f.id (code_number f.code)) ⊎ ((r ≡ fine) × (gathered_verdict start g ≡ verdict_of (bad f.id (code_number f.code))))

-- Config flags in laws: the bits that commands need (document 02, item 2), and tables with other flags, for laws to
-- compare with. No promise uses these words.
use Rattle.std.specs.Prelude.{if◌then◌else◌, ℕ, Bool, true, ◌&&◌, map, eqb}
use Rattle.baos.specs.declared.datapoint.Datapoint.{Datapoint}
use Rattle.baos.specs.Datapoint.{is_send}
use Rattle.baos.specs.Lookup.{communicates, transmits}
use Rattle.baos.specs.Table.{Tables, with_datapoints}
use Rattle.baos.specs.Message.{Served}

-- of these flags those that the command needs are on: "commands 2 and 3 need config bits 2 and 6, command 4 needs bit 2"
unfoldable pub needed_bits_on : ℕ → ℕ → Bool
needed_bits_on flags c =
    if is_send c then communicates flags && transmits flags
    else if eqb c 4 then communicates flags
    else true

unfoldable pub with_flags : ℕ → Datapoint → Datapoint
with_flags flags d =
    record {
      id = d.id;
      typecode = d.typecode;
      flags = flags;
      dpt = d.dpt;
      state = d.state;
      value = d.value;
      mark = d.mark;
    }

-- the tables with the flags that `flags` has for each ID, and nothing else changed
unfoldable pub reflagged : (ℕ → ℕ) → Tables → Tables
reflagged flags t = with_datapoints (map (λ (d : Datapoint). with_flags (flags d.id) d) t.datapoints) t

abbrev pub reflagged_served : (ℕ → ℕ) → Served → Served
reflagged_served flags s = record { says = s.says; after = reflagged flags s.after }

-- A line that has gathered 10 40 40, and the burst 16: the reset request ends on the line, and alone 16 is damage.
use Prim.Native.Nat.{ℕ}
use mathlib.Core.Path.{◌≡◌, refl, ap}
use mathlib.Core.Bool.{true, false}
use mathlib.Core.List.{[], ◌∷◌}
use native.Mathlib.Omega.{arith}
use lib.ListN.{length}
use Rattle.ft12.specs.Receiver.{judged_first, judged_fixed, judged}
use Rattle.ft12.specs.Record.{Line}
use Rattle.ft12.specs.Rules.{at_start, cleared, expecting, case_of_fixed, case_of, heard_at, on_heard, on_host_byte, on_message}
use Rattle.ft12.specs.Burst.{Contents, gathered_after, with_byte, contents_from, contents}
use Rattle.demands.specs.Bursts.{watched}
use Rattle.examples.specs.BurstsNeeded.{StartNeeded}

unfoldable mid_frame : Line
mid_frame =
    record {
      gathered = 0x10 ∷ 0x40 ∷ 0x40 ∷ [];
      dropping = false;
      expected = true;
      send = true;
      outstanding = [];
      resends = 0;
    }

abbrev count : Contents → ℕ
count c = length c.pieces

found_one : count (watched (λ (at : ℕ). []) 0 mid_frame (0x16 ∷ [])) ≡ 1
unfolding mid_frame watched on_message on_host_byte heard_at case_of case_of_fixed on_heard at_start cleared expecting judged judged_fixed
found_one = refl

found_none : count (contents (0x16 ∷ [])) ≡ 0
unfolding contents contents_from with_byte gathered_after judged judged_first
found_none = refl

pub start_needed : StartNeeded
start_needed h = absurd (omega (arith, found_one, found_none, ap count (h mid_frame (0x16 ∷ []))))

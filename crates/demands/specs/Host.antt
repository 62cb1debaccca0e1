-- The host's rules: what the host hears in the bytes that reach it, from a frame start on. Written from the paper for
-- the host's end; nothing of the server's receiver is used.
use Rattle.std.specs.Prelude.{if◌then◌else◌, ℕ, zero, suc, Bool, true, false, ◌&&◌, List, [], ◌∷◌, length, get_or, take, drop, leb, eqb}
use Rattle.ft12.specs.Frame.{checksum}

-- an acknowledgement; a fixed frame and its C; a data frame of the server, its count bit (true where it is odd) and
-- its message; a data frame that is not the server's; bytes that are none of these
pub data HostHeard : Type 0 where
  heard_acknowledgement : HostHeard
  heard_fixed : ℕ → HostHeard
  heard_message : Bool → List ℕ → HostHeard
  heard_other : HostHeard
  heard_damage : HostHeard

-- "Fixed frame: 10 C C 16."
unfoldable pub is_fixed : List ℕ → Bool
is_fixed s = eqb (get_or s 0 0) 0x10 && eqb (get_or s 2 0) (get_or s 1 0) && eqb (get_or s 3 0) 0x16

-- control and data: L bytes behind 68 L L 68; and what stands behind them
unfoldable pub control_and_data : List ℕ → List ℕ
control_and_data s = take (get_or s 1 0) (drop 4 s)

unfoldable pub behind_them : List ℕ → List ℕ
behind_them s = drop (get_or s 1 0) (drop 4 s)

-- "Data frame: 68 L L 68, control, data, checksum, 16. L from 1 to 255 counts control and data [..]. The checksum is
-- the sum of control and data bytes, the carry beyond eight bits dropped."
unfoldable pub is_data : List ℕ → Bool
is_data s =
    eqb (get_or s 0 0) 0x68 && leb 1 (get_or s 1 0) && leb (get_or s 1 0) 255 && eqb (get_or s 2 0) (get_or s 1 0)
    && eqb (get_or s 3 0) 0x68
    && eqb (get_or (behind_them s) 0 0) (checksum (control_and_data s)) && eqb (get_or (behind_them s) 1 0) 0x16

-- "Control [..] from server: F3 or D3", the count bit odd or even
unfoldable pub from_server : ℕ → List ℕ → HostHeard
from_server control m =
    if eqb control 0xF3 then heard_message true m
    else if eqb control 0xD3 then heard_message false m
    else heard_other

-- what stands first in the bytes s
unfoldable pub hears : List ℕ → HostHeard
hears s =
    if eqb (get_or s 0 0) 0xE5 then heard_acknowledgement
    else if is_fixed s then heard_fixed (get_or s 1 0)
    else if is_data s then from_server (get_or (control_and_data s) 0 0) (drop 1 (control_and_data s))
    else heard_damage

-- and where the next frame starts; behind damage none does
unfoldable pub next : List ℕ → List ℕ
next s =
    if eqb (get_or s 0 0) 0xE5 then drop 1 s
    else if is_fixed s then drop 4 s
    else if is_data s then drop 2 (behind_them s)
    else []

-- one after the other, at most so many
unfoldable pub hears_up_to : ℕ → List ℕ → List HostHeard
hears_up_to zero s = []
hears_up_to (suc n) [] = []
hears_up_to (suc n) (b ∷ s) = hears (b ∷ s) ∷ hears_up_to n (next (b ∷ s))

-- all of them: each takes a byte or more
unfoldable pub host_reads : List ℕ → List HostHeard
host_reads s = hears_up_to (length s) s

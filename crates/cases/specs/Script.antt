-- What a script asks.
use Rattle.std.specs.Prelude.{if◌then◌else◌, ◌≡◌, ℕ, Bool, true, List, [], ◌∷◌, ◌==◌, slice_index}
use Rattle.calls.specs.declared.event.Event.TheVariants.{IdleMark}
use Rattle.calls.specs.Numbers.{event_numbered}
use Rattle.cases.specs.Bench.{Bench}
use Rattle.cases.specs.Run.{Stand}
use Rattle.cases.specs.Bench.{empty_bench, with_bits, with_value}
use Rattle.cases.specs.Read.{ReadsAs}
use Rattle.cases.specs.Run.{happened, quiet, Sends, stand_after}
use Rattle.cases.specs.Same.{SameTables, LinkIs}
use Rattle.script.specs.Line.{Line}
use Rattle.script.specs.Line.{listed, lines, read_line}
use Rattle.script.specs.Record.{raised}
use Rattle.cases.specs.Burst.{FindsAs}
use Rattle.cases.specs.Lent.{built}

abbrev pub standing : Bench → Bool → ℕ → Stand
standing b q p = record { bench = b; quiet = q; place = p }

-- a server starts with the tables that are wanted
unfoldable pub started : Bench → List ℕ → Stand
started wanted a = standing (with_bits (slice_index a 0) (slice_index a 1) wanted) true 1000

-- after an idle mark, which is to be quiet
unfoldable pub marked : Bench → Stand
marked b = standing (happened IdleMark b) (quiet (happened IdleMark b)) 1000

-- after the event of these numbers: event, byte, ID and outcome
unfoldable pub numbered : List ℕ → Bench → Stand
numbered a b =
    standing (happened (event_numbered (slice_index a 0) (slice_index a 1) (raised a 2 0) (slice_index a 4)) b) true 1000

-- what happens by the line l: the letters s, h, m, b and n
unfoldable pub acted : Line → Bench → Stand → Stand
acted l wanted s =
    if l.letter == 0x73 then started wanted l.bytes
    else if l.letter == 0x68 then stand_after (listed l) s.bench
    else if l.letter == 0x6D then marked s.bench
    else if l.letter == 0x62 then standing (with_value l s.bench) true 1000
    else if l.letter == 0x6E then numbered l.bytes s.bench
    else s

-- damage was found at the place asked for, all from there on is dropped, and nothing is sent
pub record Damaged (asked place : ℕ) (b : Bench) : Type 0 where
  pub found : place ≡ asked
  pub drops : b.link.dropping ≡ 1
  pub silent : quiet b ≡ true

-- what was to be quiet was, and what the line l asks holds after it: the letters r, x, l, t, g and u
pub record Right (l : Line) (wanted : Bench) (s : Stand) : Type 0 where
  pub silent : s.quiet ≡ true
  pub reply : l.letter ≡ 0x72 → Sends s.bench (listed l)
  pub damage : l.letter ≡ 0x78 → Damaged (slice_index l.bytes 0) s.place s.bench
  pub link : l.letter ≡ 0x6C → LinkIs s.bench.link (listed l)
  pub tables : l.letter ≡ 0x74 → SameTables s.bench wanted
  pub reading : l.letter ≡ 0x67 → ReadsAs s.bench l.bytes
  pub burst : l.letter ≡ 0x75 → FindsAs (listed l)

-- all that the lines ask holds, each after what the lines up to it did
unfoldable pub AllRight : List (List ℕ) → Bench → Stand → Type 0
AllRight [] wanted s = true ≡ true
AllRight (t ∷ ts) wanted s =
    Right (read_line t) (built (read_line t) wanted) (acted (read_line t) (built (read_line t) wanted) s)
    × AllRight ts (built (read_line t) wanted) (acted (read_line t) (built (read_line t) wanted) s)

-- a script begins with empty tables, the link of an empty bench and nothing from the host
unfoldable pub Played : List ℕ → Type 0
Played t = AllRight (lines t) empty_bench (standing empty_bench true 1000)

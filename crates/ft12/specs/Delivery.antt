-- Frames on their way, and runs of host bytes.
use Rattle.std.specs.Prelude.{ℕ, suc, ◌<◌, ◌≡◌, ◌≢◌, Bool, true, false, List, [], ◌∷◌, ◌++◌, length, get_or, take, drop, set, T}
use Rattle.ft12.specs.declared.receiver.Judgement.TheVariants.{Data}
use Rattle.ft12.specs.Frame.{message_of}
use Rattle.ft12.specs.Receiver.{judged, is_beginning}
use Rattle.ft12.specs.Record.{Line}
use Rattle.ft12.specs.Rules.{Up, nothing, acknowledged, dropped, reset, message, on_host_byte, on_idle_mark}

-- ---- reading a frame
-- From a frame start the bytes f, one by one, are one whole data frame with this control byte and message: each byte
-- but the last asks for more, and the last ends it.
pub record ReadsAs (f : List ℕ) (c : ℕ) (m : List ℕ) : Type 0 where
  pub before : List ℕ
  pub last : ℕ
  pub bytes : f ≡ before ++ last ∷ []
  pub gathered : T (is_beginning before)
  pub ends : judged before last ≡ Data c (suc (length m))
  pub carries : message_of f ≡ m

-- ---- what becomes of a frame on its way
-- "exactly one byte changed or lost": nothing; byte k turned into b; byte k lost
pub data Delivery : Type 0 where
  sound : Delivery
  changed : ℕ → ℕ → Delivery
  lost : ℕ → Delivery

unfoldable pub is_sound : Delivery → Bool
is_sound sound = true
is_sound (changed k b) = false
is_sound (lost k) = false

-- the bytes that arrive of the frame f
unfoldable pub arrives : List ℕ → Delivery → List ℕ
arrives f sound = f
arrives f (changed k b) = set f k b
arrives f (lost k) = take k f ++ drop (suc k) f

-- the byte is one of the frame's, and what it is turned into is another byte
abbrev pub Possible : List ℕ → Delivery → Type 0
Possible f sound = Unit {0}
Possible f (changed k b) = (k < length f) × (b < 256) × (b ≢ get_or f k 0)
Possible f (lost k) = k < length f

-- ---- host bytes one after the other
-- all that was sent, all that was handed up, and the line after them
pub record Hearing : Type 0 where
  pub sent : List ℕ
  pub ups : List Up
  pub line : Line

-- what is handed up in front of what is handed up later
unfoldable pub up_first : Up → List Up → List Up
up_first nothing us = us
up_first acknowledged us = acknowledged ∷ us
up_first dropped us = dropped ∷ us
up_first reset us = reset ∷ us
up_first (message m) us = message m ∷ us

unfoldable pub hearing : List ℕ → Line → Hearing
hearing [] l = record { sent = []; ups = []; line = l }
hearing (b ∷ bs) l =
    let v = on_host_byte b l in
    let r = hearing bs v.line in
    record { sent = v.sent ++ r.sent; ups = up_first v.up r.ups; line = r.line }

-- bytes, and the idle mark behind them
unfoldable pub delivered : List ℕ → Line → Hearing
delivered bs l =
    record {
      sent = (hearing bs l).sent;
      ups = (hearing bs l).ups;
      line = (on_idle_mark (hearing bs l).line).line;
    }

-- Events on the bench, one after the other.
use Rattle.std.specs.Prelude.{if◌then◌else◌, ◌≡◌, ℕ, suc, ◌≤◌, Bool, true, false, ◌&&◌, List, [], ◌∷◌, take, ◌==◌}
use Rattle.words.specs.Words.{is_yes}
use Rattle.calls.specs.declared.event.Event.{Event}
use Rattle.calls.specs.declared.event.Event.TheVariants.{HostByte}
use Rattle.calls.specs.Reply.{Reply, Refused, Accepted}
use Rattle.cases.specs.Bench.{Bench}
use Rattle.cases.specs.Step.{lists_of, stepped}

-- a bench after what happened; whether all was quiet that was to be; and at which of the bytes that the host sent last the
-- receiver found damage
pub record Stand : Type 0 where
  pub bench : Bench
  pub quiet : Bool
  pub place : ℕ

-- the bench after an event
unfoldable pub happened : Event → Bench → Bench
happened e b = stepped b (lists_of b) e

-- how many bytes of the output a call sends; where it was refused, more than the output has
unfoldable pub count_sent : Reply → ℕ
count_sent (Refused n) = 263
count_sent (Accepted count) = count

-- the last call was accepted and sends nothing
unfoldable pub quiet : Bench → Bool
quiet b = count_sent b.reply == 0

-- the last call was accepted and sends these bytes
pub record Sends (b : Bench) (wanted : List ℕ) : Type 0 where
  pub within : count_sent b.reply ≤ 262
  pub bytes : take (count_sent b.reply) b.out ≡ wanted

-- the bench after each of these bytes from the host, in turn
unfoldable pub heard : List ℕ → Bench → Bench
heard [] b = b
heard (x ∷ xs) b = heard xs (happened (HostByte x) b)

-- there are some, and none of them but the last draws a byte or a refusal
unfoldable pub only_last : List ℕ → Bench → Bool
only_last [] b = false
only_last (x ∷ []) b = true
only_last (x ∷ y ∷ ys) b = quiet (happened (HostByte x) b) && only_last (y ∷ ys) (happened (HostByte x) b)

-- the place of the last of them before which the receiver does not drop: they are counted from k on, and p is the place
-- where there is none
unfoldable pub last_sound : List ℕ → ℕ → ℕ → Bench → ℕ
last_sound [] k p b = p
last_sound (x ∷ xs) k p b = last_sound xs (suc k) (if is_yes b.link.dropping then p else k) (happened (HostByte x) b)

-- all three. No line has 1000 bytes
unfoldable pub stand_after : List ℕ → Bench → Stand
stand_after xs b = record { bench = heard xs b; quiet = only_last xs b; place = last_sound xs 0 1000 b }

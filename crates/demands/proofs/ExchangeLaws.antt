-- From what the link hears in host bytes to what the server does on them: unless the link hands up a message the tables stay, and a sound frame's one
-- message is carried out.
use Prim.Native.Nat.{ℕ, ◌≤◌}
use mathlib.Core.Path.{◌≡◌, refl, sym, ◌∙◌, ap}
use mathlib.Core.Bool.{Bool, true, false, not}
use mathlib.Core.List.{List, [], ◌∷◌, ◌++◌, map, map-append, append_assoc, append-nil}
use lib.ListN.{length}
use lib.Dec.{T}
use Rattle.words.specs.Words.{is_empty}
use Rattle.ft12.specs.Frame.{acknowledgement, data_frame}
use Rattle.ft12.specs.Receiver.{is_beginning}
use Rattle.ft12.specs.Record.{Line, host_control}
use Rattle.ft12.specs.Rules.{Up, nothing, acknowledged, dropped, reset, message, at_start, gathering, expecting, on_host_byte, on_idle_mark}
use Rattle.ft12.specs.Delivery.{Hearing, up_first, hearing, delivered}
use Rattle.words.proofs.WordLaws.{true_T}
use Rattle.ft12.proofs.HearingLaws.{beginning_runs, frame_reads, request_heard}
use Rattle.baos.specs.Table.{Tables}
use Rattle.baos.specs.Service.{carried_out}
use Rattle.calls.specs.declared.event.Event.{Event}
use Rattle.calls.specs.declared.event.Event.TheVariants.{HostByte, IdleMark}
use Rattle.calls.specs.Call.{Done, quiet, saying, handed_up, on_moved, happens}
use Rattle.demands.specs.Exchange.{following, in_turn, then_idle}

-- ---- events in turn
following-following : (s r : List ℕ) (d : Done) → following (s ++ r) d ≡ following s (following r d)
unfolding following
following-following s r d = rw (append_assoc s r d.sent)

in_turn_append : (es fs : List Event) (t : Tables) (l : Line) → in_turn (es ++ fs) t l ≡ following (in_turn es t l).sent (in_turn fs (in_turn es t l).tables (in_turn es t l).line)
unfolding in_turn
in_turn_append [] fs t l = unfold following in refl
in_turn_append (e ∷ es) fs t l =
    let d = happens e [] t l in
    ap (following d.sent) (in_turn_append es fs d.tables d.line)
    ∙ sym (following-following d.sent (in_turn es d.tables d.line).sent _)
    ∙ (unfold following in refl)

-- ---- bytes in which no message is handed up
unfoldable pub no_message : List Up → Bool
no_message [] = true
no_message (nothing ∷ us) = no_message us
no_message (acknowledged ∷ us) = no_message us
no_message (dropped ∷ us) = no_message us
no_message (reset ∷ us) = no_message us
no_message (message m ∷ us) = false

abbrev ran_with : Tables → Hearing → Done
ran_with t r = record { sent = r.sent; tables = t; line = r.line }

-- what is handed up at one byte, and what the bytes behind it do
module _ (bs : List ℕ) (t : Tables) (s : List ℕ) (l : Line) where
  abbrev behind : Done → Done
  behind d = following d.sent (in_turn (map HostByte bs) d.tables d.line)

  handed_leaves : (u : Up) → T (no_message (up_first u (hearing bs l).ups)) → (T (no_message (hearing bs l).ups) → in_turn (map HostByte bs) t l ≡ ran_with t (hearing bs l))
      → behind (handed_up u s t l) ≡ record { sent = s ++ (hearing bs l).sent; tables = t; line = (hearing bs l).line }
  unfolding no_message up_first handed_up following
  handed_leaves nothing n r = rw (r n)
  handed_leaves acknowledged n r = rw (r n)
  handed_leaves dropped n r = rw (r n)
  handed_leaves reset n r = rw (r n)
  handed_leaves (message m) n r = absurd n

pub bytes_leave : (bs : List ℕ) (t : Tables) (l : Line) → T (no_message (hearing bs l).ups) → in_turn (map HostByte bs) t l ≡ ran_with t (hearing bs l)
unfolding in_turn hearing happens on_moved
bytes_leave [] t l n = refl
bytes_leave (b ∷ bs) t l n =
    let v = on_host_byte b l in
    handed_leaves bs t v.sent v.line v.up n (λ q. bytes_leave bs t v.line q)

-- the idle mark behind what was done
abbrev pub then_marked : Done → Done
then_marked d = record { sent = d.sent; tables = d.tables; line = (on_idle_mark d.line).line }

marked : (bs : List ℕ) (t : Tables) (l : Line) → in_turn (then_idle bs) t l ≡ then_marked (in_turn (map HostByte bs) t l)
unfolding then_idle in_turn following happens on_moved handed_up on_idle_mark
marked bs t l = in_turn_append (map HostByte bs) (IdleMark ∷ []) t l ∙ rw (append-nil (in_turn (map HostByte bs) t l).sent)

-- unless a message is handed up, the server sends what the link sends, the tables stay, and the line is the link's
pub delivery_leaves : (bs : List ℕ) (t : Tables) (l : Line) → T (no_message (delivered bs l).ups)
    → in_turn (then_idle bs) t l ≡ record { sent = (delivered bs l).sent; tables = t; line = (delivered bs l).line }
unfolding delivered
delivery_leaves bs t l n = marked bs t l ∙ ap then_marked (bytes_leave bs t l n)

-- ---- a sound request
last_told : (u : Up) (m : List ℕ) → up_first u [] ≡ message m ∷ [] → u ≡ message m
unfolding up_first no_message
last_told nothing m e = absurd (true_T (sym (ap no_message e)))
last_told acknowledged m e = absurd (true_T (sym (ap no_message e)))
last_told dropped m e = absurd (true_T (sym (ap no_message e)))
last_told reset m e = absurd (true_T (sym (ap no_message e)))
last_told (message x) m e = cc

-- a byte whose hearing hands up one message: it is carried out
last_carries : (x : ℕ) (m : List ℕ) (t : Tables) (l l' : Line) → hearing (x ∷ []) l ≡ record { sent = acknowledgement; ups = message m ∷ []; line = l' }
    → on_moved (on_host_byte x l) t ≡ saying acknowledgement (carried_out t m) l'
unfolding on_moved handed_up
last_carries x m t l l' e =
    let v = on_host_byte x l in
    let sent : v.sent ≡ acknowledgement = sym (append-nil v.sent) ∙ (unfold hearing in ap (λ (r : Hearing). r.sent) e) in
    let up : v.up ≡ message m = last_told v.up m (unfold hearing in ap (λ (r : Hearing). r.ups) e) in
    let line : v.line ≡ l' = unfold hearing in ap (λ (r : Hearing). r.line) e in
    rw (sent, up, line)

gathers : (p : List ℕ) (l : Line) → T (is_beginning p) → hearing p (at_start l) ≡ record { sent = []; ups = []; line = gathering p l }
unfolding hearing
gathers p l b = rw append-nil at (beginning_runs p [] l b)

-- the beginning of a frame is gathered, and the byte behind it does what it does
bytes_then : (p : List ℕ) (x : ℕ) (t : Tables) (l : Line) → T (is_beginning p) → in_turn (map HostByte (p ++ x ∷ [])) t (at_start l) ≡ on_moved (on_host_byte x (gathering p l)) t
unfolding in_turn following happens
bytes_then p x t l b =
    let before : in_turn (map HostByte p) t (at_start l) ≡ quiet t (gathering p l) =
    bytes_leave p t (at_start l) (rw (gathers p l b) (unfold no_message in tt)) ∙ ap (ran_with t) (gathers p l b) in
    ap (λ (es : List Event). in_turn es t (at_start l)) (map-append HostByte p (x ∷ []))
    ∙ in_turn_append (map HostByte p) (HostByte x ∷ []) t (at_start l)
    ∙ rw (before, append-nil (on_moved (on_host_byte x (gathering p l)) t).sent)

-- "Expected count bit, nothing outstanding: E5, bit flips, message carried out, answer framed right after the E5"
pub request_carried : (c : ℕ) (m : List ℕ) (t : Tables) (l : Line) → length m ≤ 254 → l ≡ at_start l → c ≡ host_control l.expected → is_empty l.outstanding ≡ true
    → in_turn (then_idle (data_frame c m)) t l ≡ then_marked (saying acknowledgement (carried_out t m) (expecting (not l.expected) l))
request_carried c m t l h s e o =
    let r = frame_reads c m h in
    let last : hearing (r.last ∷ []) (gathering r.before l) ≡ hearing (data_frame c m) l =
    sym (ap (λ (b : List ℕ). hearing b l) r.bytes ∙ ap (hearing (r.before ++ r.last ∷ [])) s ∙ beginning_runs r.before (r.last ∷ []) l r.gathered) in
    let carried = last_carries r.last m t (gathering r.before l) _ (last ∙ request_heard c m l h s e o) in
    marked (data_frame c m) t l
    ∙ ap then_marked (ap (λ (b : List ℕ). in_turn (map HostByte b) t l) r.bytes ∙ ap (in_turn (map HostByte (r.before ++ r.last ∷ [])) t) s ∙ bytes_then r.before r.last t l r.gathered ∙ carried)

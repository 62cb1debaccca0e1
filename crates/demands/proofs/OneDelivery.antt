-- One delivery of a request, sound or damaged, through the calls. The message may begin with any byte.
use Prim.Native.Nat.{ℕ, ◌≤◌}
use mathlib.Core.Path.{◌≡◌, refl, sym, ◌∙◌, ap, subst}
use mathlib.Core.Logic.{◌≢◌}
use mathlib.Core.Bool.{Bool, true, false, not, ◌||◌}
use mathlib.Core.List.{List, [], ◌∷◌, ◌++◌}
use lib.ListN.{length, get_or}
use lib.Dec.{T, ltb}
use borrow.Author.Tests.{le-ltb}
use Rattle.std.specs.Prelude.{if◌then◌else◌}
use Rattle.words.specs.Words.{is_empty, are_bytes}
use Rattle.ft12.proofs.RecordLaws.{line_of-link_of}
use Rattle.ft12.specs.Frame.{acknowledgement, longest_message, data_frame}
use Rattle.ft12.specs.Record.{Line, link_of, host_control, server_control, line_ok}
use Rattle.ft12.specs.Rules.{at_start, holding, expecting, on_idle_mark, on_message}
use Rattle.ft12.specs.Delivery.{Delivery, sound, is_sound, arrives, Possible, Hearing, delivered}
use Rattle.ft12.proofs.HearingLaws.{quiet, repeat_heard}
use Rattle.ft12.proofs.DeliveryLaws.{damaged_nothing, host_control_lem}
use Rattle.baos.specs.Table.{Tables, well_formed}
use Rattle.baos.specs.Service.{carried_out}
use Rattle.baos.proofs.AnswerLaws.{Sized, none, some, answer_sized}
use Rattle.calls.specs.Call.{Done, saying}
use Rattle.demands.specs.Run.{Ran}
use Rattle.demands.specs.Exchange.{in_turn, Lent, then_idle, delivery, answer_frame}
use Rattle.demands.proofs.ExchangeLaws.{no_message, then_marked, delivery_leaves, request_carried}
use Rattle.demands.proofs.CallRuns.{ran_of, idle_run, idle_lasts}

-- ---- words
not_not : (b : Bool) → not (not b) ≡ b
not_not true = refl
not_not false = refl

-- taking a message back leaves the expected bit
message_expected : (s : List ℕ) (l : Line) → (on_message s l).line.expected ≡ l.expected
message_expected s l = go (is_empty s || ltb longest_message (length s) || not (is_empty l.outstanding)) refl
  where
    go : (u : Bool) → (is_empty s || ltb longest_message (length s) || not (is_empty l.outstanding)) ≡ u → (on_message s l).line.expected ≡ l.expected
    go true e = unfold on_message in simp e
    go false e = unfold on_message holding in simp e

-- an answer is framed and sent, where there is one
message_sent : (s : List ℕ) (l : Line) → Sized s → is_empty l.outstanding ≡ true → (on_message s l).sent ≡ (if is_empty s then [] else data_frame (server_control l.send) s)
unfolding on_message
message_sent s l (none e) o = rw e
message_sent [] l (some a b) o = refl
message_sent (x ∷ s) l (some a b) o = simp (le-ltb 254 (length (x ∷ s)) b, o)

-- a message that a frame can carry
pub record Carried (m : List ℕ) : Type 0 where
  pub short : length m ≤ longest_message
  pub bytes : T (are_bytes m)

-- behind an idle mark the receiver is at a frame start
marked_start : (l : Line) → (on_idle_mark l).line ≡ at_start (on_idle_mark l).line
unfolding on_idle_mark at_start
marked_start l = refl

delivered_start : (bs : List ℕ) (l : Line) → (delivered bs l).line ≡ at_start (delivered bs l).line
unfolding delivered
delivered_start bs l = marked_start _

-- where the exchange stands between two deliveries
pub record Ready (t : Tables) (l : Line) : Type 0 where
  pub tables : T (well_formed t)
  pub line : T (line_ok l)
  pub start : l ≡ at_start l

abbrev pub ran : List ℕ → Tables → Line → Ran
ran s t l = record { sent = s; tables = t; link = link_of l }

-- calls with output room that none refuses
abbrev pub Roomy : (ℕ → Lent) → Type 0
Roomy lent = (n : ℕ) → 262 ≤ length (lent n).output

module _ (m : List ℕ) (carried : Carried m) (bit : Bool) where
  abbrev pub f : List ℕ
  f = data_frame (host_control bit) m

  -- ---- one delivery
  -- with no message handed up: what the link sends, and the line it leaves
  module _ (d : Delivery) (t : Tables) (l : Line) (ready : Ready t l) (r : Hearing) (e : delivered (arrives f d) l ≡ r) (n : T (no_message r.ups)) where
    pub unheeded : (lent : ℕ → Lent) → Roomy lent → delivery lent f d t (link_of l) ≡ ran r.sent t r.line
    unfolding delivery
    unheeded lent room =
        idle_run (arrives f d) lent t l room ready.tables ready.line ∙ ap ran_of (delivery_leaves (arrives f d) t l (rw e n)) ∙ ap (λ (x : Hearing). ran x.sent t x.line) e

    pub unheeded_ready : Ready t r.line
    unheeded_ready =
        let lasts = idle_lasts (arrives f d) t l ready.tables ready.line in
        let same = delivery_leaves (arrives f d) t l (rw e n) ∙ ap (λ (x : Hearing). record { sent = x.sent; tables = t; line = x.line }) e in
        record {
          tables = ready.tables;
          line = subst (λ (x : Done). T (line_ok x.line)) same lasts.line;
          start = subst (λ (x : Hearing). x.line ≡ at_start x.line) e (delivered_start (arrives f d) l);
        }

  -- "a damaged one draws none": where what arrives does not begin with E5, nothing is sent, and tables and line are as they were
  pub unheard : (d : Delivery) (t : Tables) (l : Line) → Ready t l → is_sound d ≡ false → Possible f d → get_or (arrives f d) 0 0 ≢ 0xE5
      → (lent : ℕ → Lent) → Roomy lent → delivery lent f d t (link_of l) ≡ ran [] t l
  unheard d t l ready u p r =
      unheeded d t l ready (quiet l) (damaged_nothing (host_control bit) (host_control_lem bit) m d l carried.short carried.bytes u p r ready.start) (unfold no_message in tt)

  -- "Other bit: E5, message dropped."
  pub repeated : (t : Tables) (l : Line) → Ready t l → l.expected ≡ not bit → (lent : ℕ → Lent) → Roomy lent → delivery lent f sound t (link_of l) ≡ ran acknowledgement t l
  repeated t l ready x = unheeded sound t l ready (record { sent = acknowledgement; ups = []; line = l }) heard (unfold no_message in tt)
    where
      other : host_control bit ≡ host_control (not l.expected)
      other = ap host_control (sym (not_not bit) ∙ ap not (sym x))

      heard : delivered (arrives f sound) l ≡ record { sent = acknowledgement; ups = []; line = l }
      heard = unfold delivered arrives on_idle_mark in rw (repeat_heard (host_control bit) m l carried.short ready.start other) (ap (λ (k : Line). record { sent = acknowledgement; ups = []; line = k }) (sym ready.start))

  -- the first sound one
  module _ (t : Tables) (l : Line) (ready : Ready t l) (x : l.expected ≡ bit) (o : is_empty l.outstanding ≡ true) where
    pub done : Done
    done = then_marked (saying acknowledgement (carried_out t m) (expecting (not l.expected) l))

    pub carries : in_turn (then_idle f) t l ≡ done
    unfolding done
    carries = request_carried (host_control bit) m t l carried.short ready.start (ap host_control (sym x)) o

    pub first_drawn : (lent : ℕ → Lent) → Roomy lent → delivery lent f sound t (link_of l) ≡ ran_of done
    unfolding delivery arrives
    first_drawn lent room = idle_run f lent t l room ready.tables ready.line ∙ ap ran_of carries

    pub first_ready : Ready done.tables done.line
    first_ready =
        let lasts = idle_lasts f t l ready.tables ready.line in
        record {
          tables = subst (λ (d : Done). T (well_formed d.tables)) carries lasts.tables;
          line = subst (λ (d : Done). T (line_ok d.line)) carries lasts.line;
          start = unfold done in marked_start _;
        }

    pub first_expected : done.line.expected ≡ not bit
    unfolding done saying on_idle_mark at_start
    first_expected = message_expected (carried_out t m).says _ ∙ (unfold expecting in ap not x)

    pub first_sent : done.sent ≡ acknowledgement ++ answer_frame t (link_of l) m
    unfolding done saying answer_frame expecting
    first_sent = rw line_of-link_of (ap (λ (s : List ℕ). acknowledgement ++ s) (message_sent (carried_out t m).says (expecting (not l.expected) l) (answer_sized t m) o))

    pub first_carried : done.tables ≡ (carried_out t m).after
    unfolding done saying
    first_carried = refl

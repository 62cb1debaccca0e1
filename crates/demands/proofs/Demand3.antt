-- Demand 3, proved over the calls: a request that is delivered more than once, sound or damaged, is carried out once.
use Prim.Native.Nat.{ℕ, suc}
use mathlib.Core.Path.{◌≡◌, refl, sym, ◌∙◌, ap, subst}
use mathlib.Core.Bool.{Bool, true, false, not}
use mathlib.Core.List.{List, [], ◌∷◌, ◌++◌}
use native.Mathlib.Decide.{ℕ_discrete}
use lib.ListN.{get_or, take}
use lib.Dec.{T, eqb}
use borrow.Author.Tests.{eq-eqb}
use Rattle.words.specs.Words.{is_yes, yes_or_no, is_empty}
use Rattle.ft12.specs.declared.record.Link.{Link}
use Rattle.ft12.specs.Frame.{acknowledgement, data_frame}
use Rattle.ft12.specs.Record.{Line, line_of, link_of, host_control, memory_ok, line_ok, in_range}
use Rattle.ft12.specs.Rules.{at_start, cleared}
use Rattle.ft12.specs.Delivery.{Delivery, sound, changed, lost, is_sound, arrives, Possible, delivered}
use Rattle.words.proofs.WordLaws.{left, right}
use Rattle.ft12.proofs.RecordLaws.{line_of-link_of}
use Rattle.ft12.proofs.EventLaws.{range_stays}
use Rattle.ft12.proofs.HearingLaws.{acknowledges}
use Rattle.ft12.proofs.DeliveryLaws.{damaged_acknowledges, host_control_lem}
use Rattle.baos.specs.Table.{Tables}
use Rattle.calls.specs.Call.{Done}
use Rattle.demands.specs.Run.{Ran}
use Rattle.demands.specs.Exchange.{Lent, delivery, Exchange, exchange, Start, Request, request_frame, EachPossible, some_sound, answer_frame, draws, Rest, same, acknowledged, none_begins_e5, Once, Demand3}
use Rattle.demands.proofs.ExchangeLaws.{no_message}
use Rattle.demands.proofs.OneDelivery.{Carried, Ready, ran, Roomy, unheeded, unheeded_ready, unheard, repeated, done, first_drawn, first_ready, first_expected, first_sent, first_carried}
use Rattle.demands.proofs.CallRuns.{deliveries_accepted}

-- an acknowledgement, or an E5 that is ignored: the line is l, or l with its outstanding frame acknowledged
data Acted (l l' : Line) : Type 0 where
  kept : l' ≡ l → Acted l l'
  clears : is_empty l.outstanding ≡ false → l' ≡ cleared (not l.send) l → Acted l l'

acknowledges_acts : (l : Line) → Acted l (acknowledges l).line
acknowledges_acts l = go (is_empty l.outstanding) refl
  where
    go : (u : Bool) → is_empty l.outstanding ≡ u → Acted l (acknowledges l).line
    go true e = kept (simp e)
    go false e = clears e (simp e)

acted_expected : {l l' : Line} → Acted l l' → l'.expected ≡ l.expected
unfolding cleared
acted_expected (kept e) = ap (λ (k : Line). k.expected) e
acted_expected (clears o e) = ap (λ (k : Line). k.expected) e

acted-written : {l l' : Line} → Acted l l' → (link_of l').expected ≡ (link_of l).expected
unfolding link_of
acted-written a = ap yes_or_no (acted_expected a)

acted_free : {l l' : Line} → Acted l l' → is_empty l.outstanding ≡ true → l' ≡ l
acted_free (kept e) f = e
acted_free (clears o e) f = absurd (subst (λ (b : Bool). T (not b)) (sym o ∙ f) tt)

-- acknowledged once, nothing more is
acted_again : {l l' : Line} (l'' : Line) → Acted l l' → Acted l' l'' → Acted l l''
unfolding cleared
acted_again l'' (kept e) a = subst (λ (k : Line). Acted k l'') e a
acted_again l'' (clears o e) a = clears o (acted_free a (ap (λ (k : Line). is_empty k.outstanding) e) ∙ e)

acknowledges_no_message : (l : Line) → T (no_message (acknowledges l).ups)
acknowledges_no_message l = go (is_empty l.outstanding) refl
  where
    go : (u : Bool) → is_empty l.outstanding ≡ u → T (no_message (acknowledges l).ups)
    go true e = unfold no_message in simp e tt
    go false e = unfold no_message in simp e tt

module _ (m : List ℕ) (request : Request m) (bit : Bool) where
  carried : Carried m
  carried = record { short = request.short; bytes = request.bytes }

  abbrev f : List ℕ
  f = data_frame (host_control bit) m

  -- ---- one delivery
  -- "a damaged one draws none": at most it acts as the acknowledgement of what is outstanding
  record Leaves (d : Delivery) (t : Tables) (l : Line) : Type 0 where
    line : Line
    drawn : (lent : ℕ → Lent) → Roomy lent → delivery lent f d t (link_of l) ≡ ran [] t line
    ready : Ready t line
    acted : Acted l line
    silent : T (not (eqb (get_or (arrives f d) 0 0) 0xE5)) → line ≡ l

  damaged : (d : Delivery) (t : Tables) (l : Line) → Ready t l → is_sound d ≡ false → Possible f d → Leaves d t l
  damaged d t l ready u p = go (ℕ_discrete (get_or (arrives f d) 0 0) 0xE5)
    where
      echo : get_or (arrives f d) 0 0 ≡ 0xE5 → delivered (arrives f d) l ≡ acknowledges l
      echo e = damaged_acknowledges (host_control bit) (host_control_lem bit) m d l request.first e ready.start

      go : Dec (get_or (arrives f d) 0 0 ≡ 0xE5) → Leaves d t l
      go (no r) =
          record {
            line = l;
            drawn = unheard m carried bit d t l ready u p r;
            ready = ready;
            acted = kept refl;
            silent = λ h. refl;
          }
      go (yes e) =
          record {
            line = (acknowledges l).line;
            drawn = unheeded m carried bit d t l ready (acknowledges l) (echo e) (acknowledges_no_message l);
            ready = unheeded_ready m carried bit d t l ready (acknowledges l) (echo e) (acknowledges_no_message l);
            acted = acknowledges_acts l;
            silent = λ h. absurd (simp (eq-eqb (get_or (arrives f d) 0 0) 0xE5 e) at h);
          }

  -- ---- the exchange
  -- what it shows from here on: the answer's frame that is still to be sent, the tables that are left, the line after the first sound delivery, and the
  -- line that is left if no delivery begins with E5
  record Went (answer : List ℕ) (t : Tables) (l l' : Line) (ds : List Delivery) (s : Exchange) : Type 0 where
    drawn : s.sent ≡ draws answer ds
    tables : s.tables ≡ t
    line : Line
    link : s.link ≡ link_of line
    acted : Acted l line
    undisturbed : T (none_begins_e5 f ds) → line ≡ l'

  module _ (lent : ℕ → ℕ → Lent) (d : Delivery) (ds : List Delivery) (answer later : List ℕ) (t t' finally : Tables) (k : Link) (l' : Line) (s : List ℕ) where
    step : delivery (lent 0) f d t k ≡ ran s t' l' → draws answer (d ∷ ds) ≡ s ∷ draws later ds → (l next end : Line)
        → (T (not (eqb (get_or (arrives f d) 0 0) 0xE5)) → next ≡ end) → Went later finally l next ds (exchange (λ i. lent (suc i)) f ds t' (link_of l'))
        → Went answer finally l end (d ∷ ds) (exchange lent f (d ∷ ds) t k)
    unfolding exchange none_begins_e5
    step e c l next end h went =
        let behind : Ran → Exchange = λ r. exchange (λ i. lent (suc i)) f ds r.tables r.link in
        let first : Bool = not (eqb (get_or (arrives f d) 0 0) 0xE5) in
        record {
          drawn = ap {B = List (List ℕ)} (λ (r : Ran). r.sent ∷ (behind r).sent) e ∙ ap {B = List (List ℕ)} (λ (r : List (List ℕ)). s ∷ r) went.drawn ∙ sym c;
          tables = ap (λ (r : Ran). (behind r).tables) e ∙ went.tables;
          line = went.line;
          link = ap (λ (r : Ran). (behind r).link) e ∙ went.link;
          acted = went.acted;
          undisturbed = λ n. went.undisturbed (right first (none_begins_e5 f ds) n) ∙ h (left first (none_begins_e5 f ds) n);
        }

  damaged_draws : (d : Delivery) (ds : List Delivery) (answer : List ℕ) → is_sound d ≡ false → draws answer (d ∷ ds) ≡ [] ∷ draws answer ds
  unfolding draws
  damaged_draws d ds answer u = simp u

  sound_draws : (ds : List Delivery) (answer : List ℕ) → draws answer (sound ∷ ds) ≡ (acknowledgement ++ answer) ∷ draws [] ds
  unfolding draws is_sound
  sound_draws ds answer = refl

  -- after the first sound delivery, which left the line l
  module _ (t : Tables) (l : Line) (x : l.expected ≡ not bit) where
    repeats : (ds : List Delivery) (lent : ℕ → ℕ → Lent) → ((i : ℕ) → Roomy (lent i)) → (n : Line) → Ready t n → Acted l n → EachPossible f ds → Went [] t l n ds (exchange lent f ds t (link_of n))
    repeats [] lent room n ready a p = record { drawn = unfold exchange draws in refl; tables = unfold exchange in refl; line = n; link = unfold exchange in refl; acted = a; undisturbed = λ h. refl }
    repeats (sound ∷ ds) lent room n ready a p =
        step lent sound ds [] [] t t t _ n acknowledgement (repeated m carried bit t n ready (acted_expected a ∙ x) (lent 0) (room 0)) (sound_draws ds []) l n n (λ h. refl)
        (repeats ds (λ i. lent (suc i)) (λ i. room (suc i)) n ready a p.1)
    repeats (changed i b ∷ ds) lent room n ready a p =
        let leaves = damaged (changed i b) t n ready (unfold is_sound in refl) p.0 in
        step lent (changed i b) ds [] [] t t t _ leaves.line [] (leaves.drawn (lent 0) (room 0)) (damaged_draws (changed i b) ds [] (unfold is_sound in refl)) l leaves.line n leaves.silent
        (repeats ds (λ j. lent (suc j)) (λ j. room (suc j)) leaves.line leaves.ready (acted_again leaves.line a leaves.acted) p.1)
    repeats (lost i ∷ ds) lent room n ready a p =
        let leaves = damaged (lost i) t n ready (unfold is_sound in refl) p.0 in
        step lent (lost i) ds [] [] t t t _ leaves.line [] (leaves.drawn (lent 0) (room 0)) (damaged_draws (lost i) ds [] (unfold is_sound in refl)) l leaves.line n leaves.silent
        (repeats ds (λ j. lent (suc j)) (λ j. room (suc j)) leaves.line leaves.ready (acted_again leaves.line a leaves.acted) p.1)

  -- up to it: with nothing outstanding a damaged delivery leaves all as it was
  module _ (t : Tables) (l : Line) (ready : Ready t l) (x : l.expected ≡ bit) (o : is_empty l.outstanding ≡ true) where
    abbrev answer : List ℕ
    answer = answer_frame t (link_of l) m

    abbrev after : Done
    after = done m carried bit t l ready x o

    abbrev WentOn : (ℕ → ℕ → Lent) → List Delivery → Type 0
    WentOn lent ds = Went answer after.tables after.line after.line ds (exchange lent f ds t (link_of l))

    unharmed : (lent : ℕ → ℕ → Lent) → Roomy (lent 0) → (d : Delivery) (ds : List Delivery) → is_sound d ≡ false → Possible f d → WentOn (λ i. lent (suc i)) ds → WentOn lent (d ∷ ds)
    unharmed lent room d ds u p went =
        let leaves = damaged d t l ready u p in
        step lent d ds answer answer t t after.tables _ l [] (leaves.drawn (lent 0) room ∙ ap (ran [] t) (acted_free leaves.acted o)) (damaged_draws d ds answer u)
        after.line after.line after.line (λ h. refl) went

    goes : (ds : List Delivery) (lent : ℕ → ℕ → Lent) → ((i : ℕ) → Roomy (lent i)) → EachPossible f ds → T (some_sound ds) → WentOn lent ds
    unfolding some_sound is_sound
    goes [] lent room p s = absurd s
    goes (sound ∷ ds) lent room p s =
        step lent sound ds answer [] t after.tables after.tables _ after.line (acknowledgement ++ answer)
        (first_drawn m carried bit t l ready x o (lent 0) (room 0) ∙ ap (λ (r : List ℕ). ran r after.tables after.line) (first_sent m carried bit t l ready x o)) (sound_draws ds answer)
        after.line after.line after.line (λ h. refl)
        (repeats after.tables after.line (first_expected m carried bit t l ready x o) ds (λ i. lent (suc i)) (λ i. room (suc i)) after.line (first_ready m carried bit t l ready x o) (kept refl) p.1)
    goes (changed i b ∷ ds) lent room p s = unharmed lent (room 0) (changed i b) ds refl p.0 (goes ds (λ j. lent (suc j)) (λ j. room (suc j)) p.1 s)
    goes (lost i ∷ ds) lent room p s = unharmed lent (room 0) (lost i) ds refl p.0 (goes ds (λ j. lent (suc j)) (λ j. room (suc j)) p.1 s)

-- what a line shows, its link record shows
acted_rest : (l l' : Line) (k k' : Link) → k ≡ link_of l → k' ≡ link_of l' → Acted l l' → Rest k k'
acted_rest l l' k k' p q (kept e) = same (q ∙ ap link_of e ∙ sym p)
acted_rest l l' k k' p q (clears o e) = subst (λ (j : Link). Rest j k') (sym p) (acknowledged (rw (line_of-link_of l) o) (q ∙ ap link_of e ∙ rw (line_of-link_of l) (unfold link_of in refl)))

-- from a line at a frame start with nothing outstanding
from_line : (lent : ℕ → ℕ → Lent) → ((i : ℕ) → Roomy (lent i)) → (m : List ℕ) → Request m → (ds : List Delivery) (t : Tables) (l : Line) → Ready t l → is_empty l.outstanding ≡ true
    → EachPossible (request_frame (link_of l) m) ds → T (some_sound ds) → Once lent m ds t (link_of l)
unfolding request_frame
from_line lent room m request ds t l ready o p s =
    let bit : Bool = (line_of (link_of l)).expected in
    let x : l.expected ≡ bit = sym (ap (λ (n : Line). n.expected) (line_of-link_of l)) in
    let went = goes m request bit t l ready x o ds lent room p s in
    let c = carried m request bit in
    let first = first_drawn m c bit t l ready x o (lent 0) (room 0) in
    record {
      alone = ap (λ (r : Ran). r.sent) first ∙ first_sent m c bit t l ready x o;
      carried = ap (λ (r : Ran). r.tables) first ∙ first_carried m c bit t l ready x o;
      drawn = went.drawn;
      tables = went.tables ∙ sym (ap (λ (r : Ran). r.tables) first);
      expected = ap (λ (j : Link). j.expected) went.link ∙ acted-written went.acted ∙ sym (ap (λ (r : Ran). r.link.expected) first);
      accepted = deliveries_accepted (request_frame (link_of l) m) ds lent t l room ready.tables ready.line;
      rest = acted_rest _ went.line _ _ (ap (λ (r : Ran). r.link) first) went.link went.acted;
      undisturbed = λ n. went.link ∙ ap link_of (went.undisturbed n) ∙ sym (ap (λ (r : Ran). r.link) first);
    }

-- ---- the start, in the link record
module _ (lent : ℕ → ℕ → Lent) (t : Tables) (k : Link) (start : Start lent t k) where
  at_start_lem : line_of k ≡ at_start (line_of k)
  unfolding line_of at_start
  at_start_lem =
      λ i. record {
        gathered = ap (λ (n : ℕ). take n k.receiver) start.received i;
        dropping = start.dropping i;
        expected = is_yes k.expected;
        send = is_yes k.send;
        outstanding = take k.held k.outstanding;
        resends = k.resends;
      }

  in_order : T (line_ok (line_of k))
  in_order = unfold in_range in right (memory_ok k) (line_ok (line_of k)) start.link

  nothing_held : is_empty (line_of k).outstanding ≡ true
  unfolding line_of
  nothing_held = rw start.held

pub demand_3 : Demand3
demand_3 lent m ds t k start request p s =
    let same = sym (range_stays k start.link) in
    subst (Once lent m ds t) same
    (from_line lent start.output m request ds t (line_of k) (record { tables = start.tables; line = in_order lent t k start; start = at_start_lem lent t k start })
    (nothing_held lent t k start) (subst (λ (j : Link). EachPossible (request_frame j m) ds) (sym same) p) s)

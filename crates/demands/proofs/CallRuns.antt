-- Calls of host bytes and an idle mark: from tables, link record and room that no call refuses none is refused, and they do what the events do in turn.
use Prim.Native.Nat.{ℕ, suc, ◌≤◌}
use mathlib.Core.Path.{◌≡◌, refl, ◌∙◌, ap}
use mathlib.Core.List.{List, [], ◌∷◌, ◌++◌, map}
use lib.ListN.{length, drop}
use lib.Seq.{take-append_seam}
use lib.Dec.{T}
use Rattle.ft12.specs.declared.record.Link.{Link}
use Rattle.ft12.specs.Record.{Line, link_of, line_ok, in_range}
use Rattle.ft12.specs.Delivery.{Delivery, arrives}
use Rattle.words.proofs.WordLaws.{T_true, both}
use Rattle.ft12.proofs.RecordLaws.{line_of-link_of, line_in_range}
use Rattle.baos.specs.Table.{Tables, well_formed}
use Rattle.calls.specs.declared.event.Event.{Event}
use Rattle.calls.specs.declared.event.Event.TheVariants.{HostByte, IdleMark}
use Rattle.calls.specs.Event.{bus_ok}
use Rattle.calls.specs.Call.{Done, happens, accepted, call}
use Rattle.calls.proofs.CallLaws.{refusal_0, InOrder, happens_lasts}
use Rattle.demands.specs.Run.{Ran, sent_of, before, run}
use Rattle.demands.specs.Exchange.{following, in_turn, Lent, calls, then_idle, delivery, is_accepted, all_accepted, none_refused}

-- what was done, in the link record
abbrev pub ran_of : Done → Ran
ran_of d = record { sent = d.sent; tables = d.tables; link = link_of d.line }

-- one call that is not refused
module _ (e : Event) (v : List ℕ) (t : Tables) (l : Line) (out : List ℕ) (w : T (well_formed t)) (o : T (line_ok l)) (room : 262 ≤ length out) (free : T (bus_ok e v t)) where
  call_is : call e v t (link_of l) out ≡ accepted out (happens e v t l)
  unfolding call
  call_is =
      rw (refusal_0 e v t (link_of l) (length out) (T_true (well_formed t) w) (T_true (in_range (link_of l)) (line_in_range l o)) room (T_true (bus_ok e v t) free), line_of-link_of l)

one_call : (e : Event) (lent : ℕ → Lent) (t : Tables) (l : Line) → T (well_formed t) → T (line_ok l) → 262 ≤ length (lent 0).output → T (bus_ok e (lent 0).value t)
    → (es : List Event) (d : Done) → happens e (lent 0).value t l ≡ d
    → calls lent (e ∷ es) t (link_of l) ≡ before d.sent (calls (λ n. lent (suc n)) es d.tables (link_of d.line))
unfolding calls sent_of accepted
one_call e lent t l w o room free es d h =
    rw (call_is e (lent 0).value t l (lent 0).output w o room free, h, take-append_seam d.sent (drop (length d.sent) (lent 0).output))

bytes_run : (bs : List ℕ) (lent : ℕ → Lent) (t : Tables) (l : Line) → ((n : ℕ) → 262 ≤ length (lent n).output) → T (well_formed t) → T (line_ok l)
    → calls lent (map HostByte bs ++ IdleMark ∷ []) t (link_of l) ≡ ran_of (in_turn (map HostByte bs ++ IdleMark ∷ []) t l)
unfolding in_turn
bytes_run [] lent t l room w o = one_call IdleMark lent t l w o (room 0) (unfold bus_ok in tt) [] (happens IdleMark [] t l) (unfold happens in refl) ∙ (unfold calls before following in refl)
bytes_run (b ∷ bs) lent t l room w o =
    let d = happens (HostByte b) [] t l in
    let lasts = happens_lasts (HostByte b) [] t l w o (unfold bus_ok in tt) in
    one_call (HostByte b) lent t l w o (room 0) (unfold bus_ok in tt) (map HostByte bs ++ IdleMark ∷ []) d (unfold happens in refl)
    ∙ ap (before d.sent) (bytes_run bs (λ n. lent (suc n)) d.tables d.line (λ n. room (suc n)) lasts.tables lasts.line)
    ∙ (unfold before following in refl)

pub idle_run : (bs : List ℕ) (lent : ℕ → Lent) (t : Tables) (l : Line) → ((n : ℕ) → 262 ≤ length (lent n).output) → T (well_formed t) → T (line_ok l)
    → calls lent (then_idle bs) t (link_of l) ≡ ran_of (in_turn (then_idle bs) t l)
unfolding then_idle
idle_run bs lent t l room w o = bytes_run bs lent t l room w o

-- the examples lend every call the same
pub same_lent : (out : List ℕ) (es : List Event) (t : Tables) (k : Link) → run out es t k ≡ calls (λ n. record { value = []; output = out }) es t k
unfolding run calls
same_lent out [] t k = refl
same_lent out (e ∷ es) t k =
    let c = call e [] t k out in
    ap (before (sent_of c.reply c.output)) (same_lent out es c.tables c.link)

-- what they leave is in order
bytes_last : (bs : List ℕ) (t : Tables) (l : Line) → T (well_formed t) → T (line_ok l) → InOrder (in_turn (map HostByte bs ++ IdleMark ∷ []) t l)
unfolding in_turn following bus_ok
bytes_last [] t l w o = let lasts = happens_lasts IdleMark [] t l w o tt in record { tables = lasts.tables; line = lasts.line }
bytes_last (b ∷ bs) t l w o =
    let lasts = happens_lasts (HostByte b) [] t l w o tt in
    let later = bytes_last bs (happens (HostByte b) [] t l).tables (happens (HostByte b) [] t l).line lasts.tables lasts.line in
    record { tables = later.tables; line = later.line }

pub idle_lasts : (bs : List ℕ) (t : Tables) (l : Line) → T (well_formed t) → T (line_ok l) → InOrder (in_turn (then_idle bs) t l)
unfolding then_idle
idle_lasts bs t l w o = bytes_last bs t l w o

-- ---- and none of them is refused
bytes_accepted : (bs : List ℕ) (lent : ℕ → Lent) (t : Tables) (l : Line) → ((n : ℕ) → 262 ≤ length (lent n).output) → T (well_formed t) → T (line_ok l)
    → T (all_accepted lent (map HostByte bs ++ IdleMark ∷ []) t (link_of l))
unfolding all_accepted is_accepted accepted bus_ok
bytes_accepted [] lent t l room w o = rw (call_is IdleMark (lent 0).value t l (lent 0).output w o (room 0) tt) tt
bytes_accepted (b ∷ bs) lent t l room w o =
    let lasts = happens_lasts (HostByte b) (lent 0).value t l w o tt in
    let d = happens (HostByte b) (lent 0).value t l in
    rw (call_is (HostByte b) (lent 0).value t l (lent 0).output w o (room 0) tt)
    (bytes_accepted bs (λ n. lent (suc n)) d.tables d.line (λ n. room (suc n)) lasts.tables lasts.line)

pub deliveries_accepted : (f : List ℕ) (ds : List Delivery) (lent : ℕ → ℕ → Lent) (t : Tables) (l : Line) → ((i n : ℕ) → 262 ≤ length (lent i n).output) → T (well_formed t) → T (line_ok l)
    → T (none_refused lent f ds t (link_of l))
unfolding none_refused delivery
deliveries_accepted f [] lent t l room w o = tt
deliveries_accepted f (d ∷ ds) lent t l room w o =
    let bs = arrives f d in
    let lasts = idle_lasts bs t l w o in
    let later = deliveries_accepted f ds (λ i. lent (suc i)) (in_turn (then_idle bs) t l).tables (in_turn (then_idle bs) t l).line (λ i. room (suc i)) lasts.tables lasts.line in
    both (all_accepted (lent 0) (then_idle bs) t (link_of l)) _ (unfold then_idle in bytes_accepted bs (lent 0) t l (room 0) w o)
    (rw (idle_run bs (lent 0) t l (room 0) w o) later)

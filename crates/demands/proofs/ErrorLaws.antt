-- An error answer changes no table: over messages, for all services, by the answer's bytes; and over calls.
use Prim.Native.Nat.{ℕ, suc, ◌+◌, ◌/◌, ◌%◌}
use mathlib.Core.Path.{◌≡◌, refl, sym, ◌∙◌, ap, subst}
use mathlib.Core.Bool.{Bool, true, false, not, ◌||◌}
use mathlib.Core.List.{List, [], ◌∷◌, ◌++◌}
use native.Mathlib.Omega.{arith}
use native.Mathlib.Decide.{ℕ_discrete}
use lib.ListN.{length, get_or, drop}
use lib.Seq.{take-append_seam}
use lib.Dec.{ltb, eqb}
use borrow.Author.Tests.{ne_eqb}
use Rattle.words.specs.Words.{is_empty}
use Rattle.ft12.specs.declared.rules.Heard.{Heard}
use Rattle.ft12.specs.declared.rules.Heard.TheVariants.{Gathered, Dropped, Ignored, Acknowledged, Reset, Repeat, Request}
use Rattle.ft12.specs.Frame.{acknowledgement, data_frame, longest_message, message_of}
use Rattle.ft12.specs.Record.{Line, line_of, server_control}
use Rattle.ft12.specs.Rules.{heard_at, on_heard, on_host_byte, on_idle_mark, on_message}
use Rattle.ft12.proofs.FrameLaws.{frame_message}
use Rattle.baos.specs.Table.{Tables}
use Rattle.baos.specs.Message.{sub_service, start_of, number_of, filter_of, coded, Finding, fine, bad, Served, answer_of, after_of, served}
use Rattle.baos.specs.Get.{AnswerEntry, listing, get_finding, getting, get_server_item, get_datapoint_description, get_description_string, get_datapoint_value, get_parameter_byte}
use Rattle.baos.specs.Set.{SetEntry, set_finding, setting, set_server_item, set_datapoint_value, set_parameter_finding, set_parameter_byte}
use Rattle.baos.specs.Service.{service, carried_out}
use Rattle.baos.specs.Indication.{indication}
use Rattle.baos.proofs.DispatchLaws.{by_service, by_message}
use Rattle.calls.specs.declared.event.Event.{Event}
use Rattle.calls.specs.declared.event.Event.TheVariants.{HostByte, IdleMark, AckWaitOver, Poll, BusValue, TransmissionOutcome}
use Rattle.calls.specs.Call.{Done, saying, handed_up, on_moved, on_poll, happens, refusal, refused, accepted, call}
use Rattle.calls.proofs.CallJoins.{waited}
use Rattle.demands.specs.Run.{sent_of}
use Rattle.demands.specs.Answers.{ErrorAnswer, ErrorsChangeNothing, ErrorCallsChangeNothing}

-- ---- the positive answers are none
not_coded_0 : (m : List ℕ) (id : ℕ) → ErrorAnswer (coded m id 0) → ⊥
unfolding coded
not_coded_0 m id e = e.code refl

not_listing : (sub start : ℕ) (e : AnswerEntry) (es : List AnswerEntry) → ErrorAnswer (listing sub start (e ∷ es)) → ⊥
unfolding listing
not_listing sub start e es a =
    let high : suc (length es) / 256 ≡ 0 = a.no_entries.0 in
    let low : suc (length es) % 256 ≡ 0 = a.no_entries.1 in
    omega (arith, high, low)

-- ---- each way of serving
served_leaves : (f : Finding) (m answer : List ℕ) (t t' : Tables) → (ErrorAnswer answer → ⊥) → ErrorAnswer (served f m answer t t').says → (served f m answer t t').after ≡ t
unfolding served answer_of after_of
served_leaves fine m answer t t' n e = absurd (n e)
served_leaves (bad id code) m answer t t' n e = refl

-- with no entry the finding is bad
none_leaves : (size : ℕ) (badFilter : Bool) (t t' : Tables) (m : List ℕ) → (getting size badFilter [] t t' m).after ≡ t
unfolding getting get_finding served after_of
none_leaves size badFilter t t' m = go (not (eqb (length m) size)) (eqb (number_of m) 0 || badFilter) refl refl
  where
    go : (u v : Bool) → not (eqb (length m) size) ≡ u → (eqb (number_of m) 0 || badFilter) ≡ v → (getting size badFilter [] t t' m).after ≡ t
    go true v p q = simp p
    go false true p q = simp (p, q)
    go false false p q = simp (p, q)

get_leaves : (size : ℕ) (badFilter : Bool) (es : List AnswerEntry) (t t' : Tables) (m : List ℕ) → ErrorAnswer (getting size badFilter es t t' m).says → (getting size badFilter es t t' m).after ≡ t
get_leaves size badFilter [] t t' m a = none_leaves size badFilter t t' m
get_leaves size badFilter (e ∷ es) t t' m a =
    unfold getting in
    served_leaves (get_finding size badFilter m (e ∷ es)) m (listing (sub_service m + 0x80) (start_of m) (e ∷ es)) t t' (not_listing (sub_service m + 0x80) (start_of m) e es) a

set_leaves : (h : ℕ) (first : List ℕ → SetEntry) (judge : SetEntry → ℕ) (done : List SetEntry → Tables) (t : Tables) (m : List ℕ) → ErrorAnswer (setting h first judge done t m).says
    → (setting h first judge done t m).after ≡ t
unfolding setting
set_leaves h first judge done t m a = served_leaves (set_finding h first judge m) m (coded m (start_of m) 0) t _ (not_coded_0 m (start_of m)) a

-- ---- every message
service_leaves : (t : Tables) (m : List ℕ) → ErrorAnswer (service t m).says → (service t m).after ≡ t
unfolding get_server_item set_server_item get_datapoint_description get_description_string get_datapoint_value set_datapoint_value get_parameter_byte set_parameter_byte
service_leaves t m =
    by_service (λ (s : Served). ErrorAnswer s.says → s.after ≡ t) t m
    (λ e. get_leaves 6 false _ t t m)
    (λ e. set_leaves 3 _ _ _ t m)
    (λ e. get_leaves 6 false _ t t m)
    (λ e. get_leaves 6 false _ t t m)
    (λ e. get_leaves 7 (ltb 2 (filter_of m)) _ t _ m)
    (λ e. set_leaves 4 _ _ _ t m)
    (λ e. get_leaves 6 false _ t t m)
    (λ e. served_leaves (set_parameter_finding (length t.parameters) m) m (coded m (start_of m) 0) t _ (not_coded_0 m (start_of m)))
    (λ a. refl)

pub errors_change_nothing : ErrorsChangeNothing
errors_change_nothing t m = by_message (λ (s : Served). ErrorAnswer s.says → s.after ≡ t) t m (λ a. refl) (service_leaves t m)

-- ---- over calls
carries_same : (c c' : ℕ) (m m' : List ℕ) → data_frame c m ≡ data_frame c' m' → m ≡ m'
carries_same c c' m m' e = sym (frame_message c m) ∙ ap message_of e ∙ frame_message c' m'

-- what the first byte is
begins : (s r : List ℕ) → s ≡ r → get_or s 0 0 ≡ get_or r 0 0
begins s r e = ap (λ (x : List ℕ). get_or x 0 0) e

message_said : (s : List ℕ) (l : Line) (c : ℕ) (a : List ℕ) → (on_message s l).sent ≡ data_frame c a → s ≡ a
unfolding on_message
message_said s l c a = go (is_empty s || ltb longest_message (length s) || not (is_empty l.outstanding)) refl
  where
    go : (u : Bool) → (is_empty s || ltb longest_message (length s) || not (is_empty l.outstanding)) ≡ u → (on_message s l).sent ≡ data_frame c a → s ≡ a
    go true e = simp e (λ h. absurd (let z : ◌≡◌ {A = ℕ} 0 0x68 = begins [] (data_frame c a) h ∙ (unfold data_frame in refl) in omega (arith, z)))
    go false e = simp e (λ h. carries_same (server_control l.send) c s a h)

-- an acknowledgement does not stand where the message's frame does
message_first : (s : List ℕ) (l : Line) (r : List ℕ) → (on_message s l).sent ≡ 0xE5 ∷ r → ⊥
unfolding on_message
message_first s l r = go (is_empty s || ltb longest_message (length s) || not (is_empty l.outstanding)) refl
  where
    go : (u : Bool) → (is_empty s || ltb longest_message (length s) || not (is_empty l.outstanding)) ≡ u → (on_message s l).sent ≡ 0xE5 ∷ r → ⊥
    go true e = simp e (λ h. let z : ◌≡◌ {A = ℕ} 0 0xE5 = begins [] (0xE5 ∷ r) h in omega (arith, z))
    go false e = simp e (λ h. let z : ◌≡◌ {A = ℕ} 0x68 0xE5 = (unfold data_frame in begins (data_frame (server_control l.send) s) (0xE5 ∷ r) h) in omega (arith, z))

module _ (c : ℕ) (a : List ℕ) (error : ErrorAnswer a) where
  said_leaves : (t : Tables) (m : List ℕ) (l : Line) → (saying acknowledgement (carried_out t m) l).sent ≡ acknowledgement ++ data_frame c a → (carried_out t m).after ≡ t
  unfolding saying
  said_leaves t m l h =
      let said : (carried_out t m).says ≡ a = message_said (carried_out t m).says l c a (ap (λ (s : List ℕ). drop 1 s) h) in
      errors_change_nothing t m (subst ErrorAnswer (sym said) error)

  heard_leaves : (x : Heard) (b : ℕ) (t : Tables) (l : Line) → (on_moved (on_heard x b l) t).sent ≡ acknowledgement ++ data_frame c a → (on_moved (on_heard x b l) t).tables ≡ t
  unfolding on_moved on_heard handed_up
  heard_leaves Gathered b t l h = refl
  heard_leaves Dropped b t l h = refl
  heard_leaves Ignored b t l h = refl
  heard_leaves Acknowledged b t l h = refl
  heard_leaves Reset b t l h = refl
  heard_leaves Repeat b t l h = refl
  heard_leaves (Request n) b t l h = unfold saying in said_leaves t _ _ (unfold saying in h)

  poll_leaves : (t : Tables) (l : Line) → (on_poll t l).sent ≡ acknowledgement ++ data_frame c a → (on_poll t l).tables ≡ t
  unfolding on_poll saying
  poll_leaves t l = go (is_empty l.outstanding) refl
    where
      go : (u : Bool) → is_empty l.outstanding ≡ u → (on_poll t l).sent ≡ acknowledgement ++ data_frame c a → (on_poll t l).tables ≡ t
      go true e = simp (e, on_poll) (λ h. absurd (message_first (indication t).says l (data_frame c a) h))
      go false e = simp (e, on_poll) (λ h. refl)

  not_nothing : [] ≡ acknowledgement ++ data_frame c a → ⊥
  not_nothing h = let z : ◌≡◌ {A = ℕ} 0 0xE5 = begins [] (0xE5 ∷ data_frame c a) h in omega (arith, z)

  happens_leaves : (e : Event) (v : List ℕ) (t : Tables) (l : Line) → (happens e v t l).sent ≡ acknowledgement ++ data_frame c a → (happens e v t l).tables ≡ t
  unfolding happens
  happens_leaves (HostByte b) v t l h = unfold on_host_byte in heard_leaves (heard_at b l) b t l (unfold on_host_byte in h)
  happens_leaves IdleMark v t l h = unfold on_moved handed_up on_idle_mark in refl
  happens_leaves AckWaitOver v t l h = ap (λ (d : Done). d.tables) (waited l t)
  happens_leaves Poll v t l h = poll_leaves t l h
  happens_leaves (BusValue id) v t l h = absurd (not_nothing h)
  happens_leaves (TransmissionOutcome id x) v t l h = absurd (not_nothing h)

pub error_calls_change_nothing : ErrorCallsChangeNothing
unfolding call accepted refused sent_of
error_calls_change_nothing e v t k out c a error = go (ℕ_discrete (refusal e v t k (length out)) 0)
  where
    go : Dec (refusal e v t k (length out) ≡ 0) → sent_of (call e v t k out).reply (call e v t k out).output ≡ acknowledgement ++ data_frame c a → (call e v t k out).tables ≡ t
    go (yes z) =
        let d = happens e v t (line_of k) in
        simp z (rw (take-append_seam d.sent (drop (length d.sent) out)) (happens_leaves c a error e v t (line_of k)))
    go (no z) = simp (ne_eqb (refusal e v t k (length out)) 0 z) (λ h. refl)

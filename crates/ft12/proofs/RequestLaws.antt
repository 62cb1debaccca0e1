-- A request: where its message stands in the record, and that clearing it leaves what the rules say. Each event leaves the record in range.
use Rattle.std.proofs.Common.{ℕ, ◌+◌, ◌-◌, ◌≤◌, ◌≡◌, refl, sym, ◌∙◌, ap, Bool, true, false, ◌&&◌, List, [], ◌∷◌, ◌++◌, arith, length, get_or, take, drop, length-append, length-drop, take-append-drop, length-take-le, T, leb, eqb}
use native.Mathlib.Decide.{ℕ_discrete}
use lib.Seq.{take-append-le, drop-append-le}
use Rattle.ft12.specs.declared.record.Link.{Link}
use Rattle.ft12.specs.declared.receiver.Judgement.{Judgement}
use Rattle.ft12.specs.declared.receiver.Judgement.TheVariants.{More, Damage, Acknowledgement, Fixed, Data}
use Rattle.ft12.specs.declared.rules.Heard.{Heard}
use Rattle.ft12.specs.declared.rules.Heard.TheVariants.{Gathered, Dropped, Ignored, Acknowledged, Reset, Repeat, Request}
use Rattle.std.specs.Prelude.{if◌then◌else◌}
use Rattle.ft12.specs.Frame.{checksum, message_of}
use Rattle.ft12.specs.Receiver.{only, judged_first, judged, is_beginning}
use Rattle.ft12.specs.Record.{Line, line_of, link_of, host_control, line_ok, receiver_ok, memory_ok, in_range}
use Rattle.ft12.specs.Rules.{message, gathering, at_start, heard_at, on_heard, on_host_byte, expecting, unread, after_host_byte, on_idle_mark, on_ack_wait_over, on_message}
use Rattle.words.proofs.WordLaws.{left, right, both}
use Rattle.ft12.proofs.ReceiverLaws
use Rattle.ft12.proofs.RecordLaws.{line_of-link_of, line_in_range}
use Rattle.ft12.proofs.RulesLaws.{outstanding_of, host_byte_ok, idle_mark_ok, ack_wait_ok, message_ok, request_judged}
use Rattle.ft12.proofs.PlaceLaws.{received_fits, receiver_places, received_stays}

-- ---- a byte that ends a data frame stands behind a whole body and its checksum
is_data : Judgement → Bool
is_data More = false
is_data Damage = false
is_data Acknowledgement = false
is_data (Fixed c) = false
is_data (Data c n) = true

pick_data : (u : Bool) (x y : Judgement) → is_data x ≡ false → is_data y ≡ false → is_data (if u then x else y) ≡ false
pick_data true x y e d = e
pick_data false x y e d = d

pub record Ended (g : List ℕ) (n : ℕ) : Type 0 where
  pub body : List ℕ
  pub one : 1 ≤ n
  pub small : n ≤ 255
  pub whole : length body ≡ n
  pub stands : g ≡ ReceiverLaws.headed n (body ++ checksum body ∷ [])

-- no other place of a frame is its end
no_data : (g g' : List ℕ) (b c n : ℕ) (j : Judgement) → g ≡ g' → judged g' b ≡ j → is_data j ≡ false → judged g b ≡ Data c n → ⊥
unfolding is_data
no_data g g' b c n j h e f d =
    let x : is_data (Data c n) ≡ false = ap is_data (sym d ∙ ap (λ (s : List ℕ). judged s b) h ∙ e) ∙ f in
    let z : ◌≡◌ {A = ℕ} 0 1 = cc x in
    omega arith

only_data : (x b : ℕ) → is_data (only x b) ≡ false
unfolding is_data
only_data x b = pick_data (eqb b x) More Damage refl refl

first_data : (b : ℕ) → is_data (judged_first b) ≡ false
unfolding is_data judged_first
first_data b = pick_data (eqb b 0xE5) Acknowledgement (if eqb b 0x10 then More else only 0x68 b) refl (pick_data (eqb b 0x10) More (only 0x68 b) refl (only_data 0x68 b))

ended : (g : List ℕ) (b c n : ℕ) → ReceiverLaws.Stands g → judged g b ≡ Data c n → Ended g n
unfolding is_data
ended g b c n (ReceiverLaws.start e) d = absurd (no_data g _ b c n _ e (ReceiverLaws.judged_start b) (first_data b) d)
ended g b c n (ReceiverLaws.fixed_1 e) d = absurd (no_data g _ b c n _ e (ReceiverLaws.judged_fixed_1 b) refl d)
ended g b c n (ReceiverLaws.fixed_2 x e) d = absurd (no_data g _ b c n _ e (ReceiverLaws.judged_fixed_2 x b) (only_data x b) d)
ended g b c n (ReceiverLaws.fixed_3 x e) d = absurd (no_data g _ b c n _ e (ReceiverLaws.judged_fixed_3 x b) (pick_data (eqb b 0x16) (Fixed x) Damage refl refl) d)
ended g b c n (ReceiverLaws.data_1 e) d = absurd (no_data g _ b c n _ e (ReceiverLaws.judged_data_1 b) (pick_data (leb 1 b && leb b 255) More Damage refl refl) d)
ended g b c n (ReceiverLaws.data_2 m p q e) d = absurd (no_data g _ b c n _ e (ReceiverLaws.judged_data_2 m b) (only_data m b) d)
ended g b c n (ReceiverLaws.data_3 m p q e) d = absurd (no_data g _ b c n _ e (ReceiverLaws.judged_data_3 m b) (only_data 0x68 b) d)
ended g b c n (ReceiverLaws.body m s p q h e) d = go (ℕ_discrete (length s) m)
  where
    go : Dec (length s ≡ m) → Ended g n
    go (yes k) = absurd (no_data g _ b c n _ e (ReceiverLaws.judged-sum m s b k) (only_data (checksum s) b) d)
    go (no k) = absurd (no_data g _ b c n _ e (ReceiverLaws.judged_body m s b (omega arith)) refl d)
ended g b c n (ReceiverLaws.summed m s p q h e) d = go (eqb b 0x16) refl
  where
    k : length (s ++ checksum s ∷ []) ≡ m + 1
    k = omega (arith, length-append s (checksum s ∷ []))

    j : judged g b ≡ (if eqb b 0x16 then Data (get_or (s ++ checksum s ∷ []) 0 0) m else Damage)
    j = rw e (ReceiverLaws.judged_end m (s ++ checksum s ∷ []) b k)

    go : (u : Bool) → eqb b 0x16 ≡ u → Ended g n
    go true f =
        let x : Data (get_or (s ++ checksum s ∷ []) 0 0) m ≡ Data c n = sym (simp f at j) ∙ d in
        let y : m ≡ n = cc x in
        record { body = s; one = omega arith; small = omega arith; whole = h ∙ y; stands = e ∙ ap {B = List ℕ} (λ (i : ℕ). ReceiverLaws.headed i (s ++ checksum s ∷ [])) y }
    go false f = absurd (no_data g g b c n Damage refl (simp f at j) refl d)

-- ---- a request in the record
-- its message stands in the receiver from place 5 on
pub record RequestAt (k : Link) (b n : ℕ) : Type 0 where
  pub one : 1 ≤ n
  pub small : n ≤ 255
  pub within : n + 5 ≤ 260
  pub message_is : (on_host_byte b (line_of k)).up ≡ message (take (n - 1) (drop 5 k.receiver))

line_receiver : (l : Line) → T (line_ok l) → l.dropping ≡ false → T (is_beginning l.gathered)
unfolding line_ok receiver_ok
line_receiver l t e = simp e at (left (receiver_ok l.dropping l.gathered) _ t)

range_line : (k : Link) → T (in_range k) → T (line_ok (line_of k))
unfolding in_range
range_line k t = right (memory_ok k) (line_ok (line_of k)) t

-- the message of the whole frame is the part of the bytes before its last
part_of_frame : (g : List ℕ) (b n : ℕ) → length g ≡ n + 5 → 1 ≤ n → message_of (g ++ b ∷ []) ≡ take (n - 1) (drop 5 g)
unfolding message_of
part_of_frame g b n e h =
    let l : length (g ++ b ∷ []) - 7 ≡ n - 1 = omega (arith, length-append g (b ∷ [])) in
    ap {B = List ℕ} (λ (i : ℕ). take i (drop 5 (g ++ b ∷ []))) l ∙ ap {B = List ℕ} (take (n - 1)) (drop-append-le 5 g (b ∷ []) (omega arith))
    ∙ take-append-le (n - 1) (drop 5 g) (b ∷ []) (omega (arith, length-drop 5 g))

part_of_memory : (a : List ℕ) (r n : ℕ) → n + 5 ≤ r → r ≤ length a → take (n - 1) (drop 5 (take r a)) ≡ take (n - 1) (drop 5 a)
part_of_memory a r n h f =
    let e : a ≡ take r a ++ drop r a = sym (take-append-drop r a) in
    let k : length (take r a) ≡ r = length-take-le r a f in
    sym (ap {B = List ℕ} (λ (s : List ℕ). take (n - 1) (drop 5 s)) e ∙ ap {B = List ℕ} (take (n - 1)) (drop-append-le 5 (take r a) (drop r a) (omega arith))
    ∙ take-append-le (n - 1) (drop 5 (take r a)) (drop r a) (omega (arith, length-drop 5 (take r a))))

request_up : (b n : ℕ) (l : Line) → heard_at b l ≡ Request n → (on_host_byte b l).up ≡ message (message_of (l.gathered ++ b ∷ []))
unfolding on_host_byte on_heard
request_up b n l h = rw h

pub request_at : (k : Link) (b n : ℕ) → T (in_range k) → heard_at b (line_of k) ≡ Request n → RequestAt k b n
request_at k b n t h = go (request_judged b (line_of k) n h)
  where
    gathered_part : take (n - 1) (drop 5 (take k.received k.receiver)) ≡ take (n - 1) (drop 5 k.receiver) → take (n - 1) (drop 5 (line_of k).gathered) ≡ take (n - 1) (drop 5 k.receiver)
    gathered_part e = unfold line_of in e

    go : ((line_of k).dropping ≡ false) × (judged (line_of k).gathered b ≡ Data (host_control (line_of k).expected) n) → RequestAt k b n
    go j =
        let e = ended (line_of k).gathered b _ n (ReceiverLaws.beginning_stands (line_of k).gathered (line_receiver (line_of k) (range_line k t) j.0)) j.1 in
        let g : length (line_of k).gathered ≡ n + 5 = ap length e.stands ∙ omega (arith, length-append e.body (checksum e.body ∷ []), e.whole) in
        let r : k.received ≡ n + 5 = received_stays k t ∙ g in
        record {
          one = e.one;
          small = e.small;
          within = omega (arith, received_fits k t);
          message_is =
              request_up b n (line_of k) h
              ∙ ap message (part_of_frame (line_of k).gathered b n g e.one ∙ (gathered_part (part_of_memory k.receiver k.received n (omega arith) (omega (arith, received_fits k t, receiver_places k t)))));
        }

-- ---- the record after each event is in range
module _ (k : Link) (t : T (in_range k)) where
  pub idle_mark_range : T (in_range (link_of (on_idle_mark (line_of k)).line))
  idle_mark_range = line_in_range _ (idle_mark_ok (line_of k) (range_line k t))

  pub ack_wait_range : T (in_range (link_of (on_ack_wait_over (line_of k)).line))
  ack_wait_range = line_in_range _ (ack_wait_ok (line_of k) (range_line k t))

  pub message_range : (m : List ℕ) → T (in_range (link_of (on_message m (line_of k)).line))
  message_range m = line_in_range _ (message_ok m (line_of k) (range_line k t))

  -- a request's bytes in the receiver are still a beginning
  unread_ok : (h : Heard) (b : ℕ) → h ≡ heard_at b (line_of k) → T (line_ok (unread h (line_of k).gathered (on_host_byte b (line_of k)).line))
  unread_ok Gathered b e = unfold unread in host_byte_ok b (line_of k) (range_line k t)
  unread_ok Dropped b e = unfold unread in host_byte_ok b (line_of k) (range_line k t)
  unread_ok Ignored b e = unfold unread in host_byte_ok b (line_of k) (range_line k t)
  unread_ok Acknowledged b e = unfold unread in host_byte_ok b (line_of k) (range_line k t)
  unread_ok Reset b e = unfold unread in host_byte_ok b (line_of k) (range_line k t)
  unread_ok Repeat b e = unfold unread in host_byte_ok b (line_of k) (range_line k t)
  unread_ok (Request n) b e =
      unfold unread gathering line_ok receiver_ok in
      both (is_beginning (line_of k).gathered) _ (line_receiver (line_of k) (range_line k t) (request_judged b (line_of k) n (sym e)).0)
      (outstanding_of (on_host_byte b (line_of k)).line (host_byte_ok b (line_of k) (range_line k t)))

  pub host_byte_range : (b : ℕ) → T (in_range (after_host_byte b k))
  unfolding after_host_byte
  host_byte_range b = line_in_range _ (unread_ok (heard_at b (line_of k)) b refl)

-- ---- clearing the receiver behind a request leaves what the rules say
start_unread : (h : Heard) (g : List ℕ) (l : Line) → at_start (unread h g l) ≡ at_start l
unfolding unread at_start gathering
start_unread Gathered g l = refl
start_unread Dropped g l = refl
start_unread Ignored g l = refl
start_unread Acknowledged g l = refl
start_unread Reset g l = refl
start_unread Repeat g l = refl
start_unread (Request n) g l = refl

pub request_cleared : (k : Link) (b n : ℕ) → heard_at b (line_of k) ≡ Request n → link_of (on_idle_mark (line_of (after_host_byte b k))).line ≡ link_of (on_host_byte b (line_of k)).line
unfolding after_host_byte on_idle_mark
request_cleared k b n h =
    ap (λ (l : Line). link_of (at_start l)) (line_of-link_of (unread (heard_at b (line_of k)) (line_of k).gathered (on_host_byte b (line_of k)).line))
    ∙ ap link_of (start_unread (heard_at b (line_of k)) (line_of k).gathered (on_host_byte b (line_of k)).line ∙ at_start_lem)
  where
    at_start_lem : at_start (on_host_byte b (line_of k)).line ≡ (on_host_byte b (line_of k)).line
    at_start_lem = unfold on_host_byte in (rw h (unfold on_heard expecting at_start in refl))

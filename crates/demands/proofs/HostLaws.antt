-- What the host hears: an acknowledgement, a fixed frame or a data frame of the server, alone or in front of further bytes.
use Prim.Native.Nat.{ℕ, zero, suc, ◌≤◌}
use mathlib.Core.Path.{◌≡◌, refl, sym, ◌∙◌, ap}
use mathlib.Core.Bool.{Bool, true, false}
use mathlib.Core.List.{List, [], ◌∷◌, ◌++◌, append_assoc, append-nil}
use native.Mathlib.Omega.{arith}
use lib.ListN.{length, get_or, take, drop, length-drop, length-append}
use lib.Seq.{take-append_seam, drop-append_seam}
use lib.Dec.{eqb}
use borrow.Author.Tests.{le-leb, eq-eqb}
use Rattle.std.specs.Prelude.{if◌then◌else◌}
use Rattle.ft12.specs.Frame.{acknowledgement, fixed_frame, checksum, data_frame}
use Rattle.ft12.specs.Record.{server_control}
use Rattle.demands.specs.Host.{HostHeard, heard_acknowledgement, heard_fixed, heard_message, is_fixed, control_and_data, behind_them, is_data, from_server, hears, next, hears_up_to, host_reads}

-- ---- readings one after the other: each takes a byte or more, so that as many as there are bytes are enough
none_left : (n : ℕ) → hears_up_to n [] ≡ []
unfolding hears_up_to
none_left zero = refl
none_left (suc n) = refl

next_short : (b : ℕ) (s : List ℕ) → length (next (b ∷ s)) ≤ length s
unfolding next behind_them
next_short b s = go (eqb b 0xE5) (is_fixed (b ∷ s)) (is_data (b ∷ s))
  where
    go : (u v w : Bool) → length (if u then drop 1 (b ∷ s) else if v then drop 4 (b ∷ s) else if w then drop 2 (drop (get_or (b ∷ s) 1 0) (drop 4 (b ∷ s))) else []) ≤ length s
    go true v w = omega arith
    go false true w = omega (arith, length-drop 3 s)
    go false false true = omega (arith, length-drop 2 (drop (get_or (b ∷ s) 1 0) (drop 3 s)), length-drop (get_or (b ∷ s) 1 0) (drop 3 s), length-drop 3 s)
    go false false false = omega arith

-- k readings, k no fewer than the bytes, are as many as n
enough : (n : ℕ) (k : ℕ) (s : List ℕ) → length s ≤ n → length s ≤ k → hears_up_to n s ≡ hears_up_to k s
unfolding hears_up_to
enough zero k [] p q = sym (none_left k)
enough zero k (b ∷ s) p q = absurd (omega (arith, p))
enough (suc n) k s p q = go k s p q (λ j r. enough n j r)
  where
    go : (k : ℕ) (s : List ℕ) → length s ≤ suc n → length s ≤ k → ((j : ℕ) (r : List ℕ) → length r ≤ n → length r ≤ j → hears_up_to n r ≡ hears_up_to j r) → hears_up_to (suc n) s ≡ hears_up_to k s
    go k [] p q ih = sym (none_left k)
    go zero (b ∷ s) p q ih = absurd (omega (arith, q))
    go (suc k) (b ∷ s) p q ih =
        ap (λ (hs : List HostHeard). hears (b ∷ s) ∷ hs) (ih k (next (b ∷ s)) (omega (arith, p, next_short b s)) (omega (arith, q, next_short b s)))

-- ---- s is heard as hs, whatever stands behind it
abbrev pub HeardAs : List ℕ → List HostHeard → Type 0
HeardAs s hs = (r : List ℕ) → host_reads (s ++ r) ≡ hs ++ host_reads r

pub heard_alone : (s : List ℕ) (hs : List HostHeard) → HeardAs s hs → host_reads s ≡ hs
heard_alone s hs h =
    let none : host_reads [] ≡ [] = unfold host_reads hears_up_to in refl in
    ap host_reads (sym (append-nil s)) ∙ h [] ∙ ap (λ (x : List HostHeard). hs ++ x) none ∙ append-nil hs

pub heard_none : HeardAs [] []
heard_none r = refl

pub heard-both : (s s' : List ℕ) (hs hs' : List HostHeard) → HeardAs s hs → HeardAs s' hs' → HeardAs (s ++ s') (hs ++ hs')
heard-both s s' hs hs' h h' r =
    ap host_reads (append_assoc s s' r) ∙ h (s' ++ r) ∙ ap (λ (x : List HostHeard). hs ++ x) (h' r) ∙ sym (append_assoc hs hs' (host_reads r))

pub heard-E5 : HeardAs acknowledgement (heard_acknowledgement ∷ [])
unfolding host_reads hears_up_to hears next
heard-E5 r = refl

pub heard_fixed_frame : (c : ℕ) → HeardAs (fixed_frame c) (heard_fixed c ∷ [])
unfolding host_reads hears_up_to hears next is_fixed fixed_frame
heard_fixed_frame c r = simp (eq-eqb c c refl) (ap {B = List HostHeard} (λ (x : List HostHeard). heard_fixed c ∷ x) (enough (suc (suc (suc (length r)))) (length r) r (omega arith) (omega arith)))

-- a data frame
module _ (c : ℕ) (m r : List ℕ) where
  abbrev whole : List ℕ
  whole = data_frame c m ++ r

  abbrev tail : List ℕ
  tail = checksum (c ∷ m) ∷ 0x16 ∷ r

  behind_head : drop 4 whole ≡ c ∷ m ++ tail
  unfolding data_frame
  behind_head = ap (λ (s : List ℕ). c ∷ s) (append_assoc m (checksum (c ∷ m) ∷ 0x16 ∷ []) r)

  control_and_data_lem : control_and_data whole ≡ c ∷ m
  unfolding control_and_data data_frame
  control_and_data_lem = ap (λ (s : List ℕ). take (suc (length m)) s) behind_head ∙ ap (λ (s : List ℕ). c ∷ s) (take-append_seam m tail)

  behind_them_lem : behind_them whole ≡ tail
  unfolding behind_them data_frame
  behind_them_lem = ap (λ (s : List ℕ). drop (suc (length m)) s) behind_head ∙ drop-append_seam m tail

  is_data_lem : length m ≤ 254 → is_data whole ≡ true
  unfolding is_data
  is_data_lem h =
      simp (control_and_data_lem, behind_them_lem, eq-eqb (checksum (c ∷ m)) (checksum (c ∷ m)) refl)
      (unfold data_frame in simp (le-leb 1 (suc (length m)) (omega arith), le-leb (suc (length m)) 255 (omega (arith, h)), eq-eqb (suc (length m)) (suc (length m)) refl))

  no_fixed : is_fixed whole ≡ false
  unfolding is_fixed data_frame
  no_fixed = refl

  frame_hears : length m ≤ 254 → hears whole ≡ from_server c m
  unfolding hears
  frame_hears h = simp (no_fixed, is_data_lem h, control_and_data_lem) (unfold data_frame in refl)

  frame_next : length m ≤ 254 → next whole ≡ r
  unfolding next
  frame_next h = simp (no_fixed, is_data_lem h, behind_them_lem) (unfold data_frame in refl)

-- its control byte is one of the server's two
server_heard : (odd : Bool) (m : List ℕ) → from_server (server_control odd) m ≡ heard_message odd m
unfolding from_server server_control
server_heard true m = refl
server_heard false m = refl

module _ (odd : Bool) (m : List ℕ) (h : length m ≤ 254) where
  abbrev frame : List ℕ
  frame = data_frame (server_control odd) m

  pub heard_frame : HeardAs frame (heard_message odd m ∷ [])
  heard_frame r =
      let rest : List ℕ = drop 1 frame ++ r in
      let all : host_reads r ≡ hears_up_to (length r) r = unfold host_reads in refl in
      let some : host_reads (frame ++ r) ≡ hears (frame ++ r) ∷ hears_up_to (length rest) (next (frame ++ r)) = unfold host_reads hears_up_to data_frame in refl in
      some
      ∙ rw (frame_hears (server_control odd) m r h, frame_next (server_control odd) m r h, server_heard odd m)
      (ap {B = List HostHeard} (λ (x : List HostHeard). heard_message odd m ∷ x) (enough (length rest) (length r) r (omega (arith, length-append (drop 1 frame) r)) (omega arith) ∙ sym all))

  pub frame_read : host_reads frame ≡ heard_message odd m ∷ []
  frame_read = heard_alone frame _ heard_frame

  pub answer_read : host_reads (acknowledgement ++ frame) ≡ heard_acknowledgement ∷ heard_message odd m ∷ []
  answer_read = heard_alone (acknowledgement ++ frame) _ (heard-both acknowledgement frame (heard_acknowledgement ∷ []) (heard_message odd m ∷ []) heard-E5 heard_frame)

pub acknowledgement_read : host_reads acknowledgement ≡ heard_acknowledgement ∷ []
acknowledgement_read = heard_alone acknowledgement _ heard-E5

pub fixed_read : (c : ℕ) → host_reads (fixed_frame c) ≡ heard_fixed c ∷ []
fixed_read c = heard_alone (fixed_frame c) _ (heard_fixed_frame c)

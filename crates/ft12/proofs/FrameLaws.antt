-- Frames: the test for a beginning decides the paper's words, and so does the test for a whole data frame.
use Rattle.std.proofs.Common.{ℕ, zero, suc, ◌+◌, ◌-◌, ◌≤◌, ◌<◌, ◌≡◌, refl, sym, ◌∙◌, ap, ◌↔◌, true, List, [], ◌∷◌, ◌++◌, append_assoc, arith, length, take, drop, replicate, length-append, length-take, take-append-drop, take_at, T, leb, ltb, leb→le, le→leb, lt→ltb, le-leb, eq-eqb}
use lib.ListN.{length-replicate}
use lib.Seq.{append_snoc, take-append_seam, take-append-le}
use Rattle.words.specs.Words.{are_bytes, same}
use Rattle.ft12.specs.Frame.{fixed_frame, checksum, data_frame, Sound, fixed, carries, Begins, Whole, message_of, is_whole}
use Rattle.ft12.specs.Receiver.{only, judged_first, judged, is_more, gathers, is_beginning}
use Rattle.ft12.specs.declared.receiver.Judgement.TheVariants.{More}
use Rattle.words.proofs.WordLaws.{left, right, both, same→eq, eq→same, every_append, every_prefix, every_suffix, bytes_at}
use Rattle.ft12.proofs.ReceiverLaws

-- ---- a sound frame, all but its last byte, asks for more at each byte
more : {j : _} → j ≡ More → T (is_more j)
unfolding is_more
more e = rw e tt

body_gathers : (n : ℕ) (b q : List ℕ) → length b + length q ≤ n → T (gathers (ReceiverLaws.headed n b) q)
unfolding gathers
body_gathers n b [] h = tt
body_gathers n b (x ∷ q) h =
    both (is_more (judged (ReceiverLaws.headed n b) x)) (gathers (ReceiverLaws.headed n (b ++ x ∷ [])) q)
    (more (ReceiverLaws.judged_body n b x (omega arith)))
    (body_gathers n (b ++ x ∷ []) q (omega (arith, length-append b (x ∷ []))))

only_itself : (x : ℕ) → only x x ≡ More
only_itself x = simp (eq-eqb x x refl)

pub head_gathers : (n : ℕ) → 1 ≤ n → n ≤ 255 → T (is_beginning (ReceiverLaws.headed n []))
unfolding is_beginning gathers
head_gathers n p q =
    both (is_more (judged [] 0x68)) _ (more (ReceiverLaws.judged_start 0x68 ∙ (unfold judged_first in refl)))
    (both (is_more (judged (0x68 ∷ []) n)) _ (more (ReceiverLaws.judged_data_1 n ∙ simp (le-leb 1 n p, le-leb n 255 q)))
    (both (is_more (judged (0x68 ∷ n ∷ []) n)) _ (more (ReceiverLaws.judged_data_2 n n ∙ only_itself n))
    (both (is_more (judged (0x68 ∷ n ∷ n ∷ []) 0x68)) true (more (ReceiverLaws.judged_data_3 n 0x68 ∙ only_itself 0x68)) tt)))

pub body_beginning : (n : ℕ) (b : List ℕ) → 1 ≤ n → n ≤ 255 → length b ≤ n → T (is_beginning (ReceiverLaws.headed n b))
body_beginning n b p q h =
    unfold is_beginning in
    rw (ReceiverLaws.gathers-append [] (ReceiverLaws.headed n []) b)
    (both (gathers [] (ReceiverLaws.headed n [])) (gathers (ReceiverLaws.headed n []) b) (unfold is_beginning in head_gathers n p q) (body_gathers n [] b (omega arith)))

pub summed_beginning : (n : ℕ) (b : List ℕ) → 1 ≤ n → n ≤ 255 → length b ≡ n → T (is_beginning (ReceiverLaws.headed n (b ++ checksum b ∷ [])))
summed_beginning n b p q h =
    ReceiverLaws.beginning_on (ReceiverLaws.headed n b) (checksum b) (body_beginning n b p q (omega arith)) (more (ReceiverLaws.judged-sum n b (checksum b) h ∙ only_itself (checksum b)))

pub fixed_beginning : (c : ℕ) → T (is_beginning (0x10 ∷ c ∷ c ∷ []))
unfolding is_beginning gathers
fixed_beginning c =
    both (is_more (judged [] 0x10)) _ (more (ReceiverLaws.judged_start 0x10 ∙ (unfold judged_first in refl)))
    (both (is_more (judged (0x10 ∷ []) c)) _ (more (ReceiverLaws.judged_fixed_1 c))
    (both (is_more (judged (0x10 ∷ c ∷ []) c)) true (more (ReceiverLaws.judged_fixed_2 c c ∙ only_itself c)) tt))

-- ---- Begins and its test
-- a list that stops short of the end of whole ++ x is a beginning where `whole` is
stops_short : (g rest whole : List ℕ) (x : ℕ) → 0 < length rest → g ++ rest ≡ whole ++ x ∷ [] → T (is_beginning whole) → T (is_beginning g)
stops_short g rest whole x h e t =
    let l : length g + length rest ≡ length whole + 1 = sym (length-append g rest) ∙ ap length e ∙ length-append whole (x ∷ []) in
    let p : g ≡ take (length g) whole =
    sym (take-append_seam g rest) ∙ ap {B = List ℕ} (take (length g)) e ∙ take-append-le (length g) whole (x ∷ []) (omega arith) in
    let q : T (is_beginning (take (length g) whole)) = ReceiverLaws.beginning_prefix (take (length g) whole) (drop (length g) whole) (rw (take-append-drop (length g) whole) t) in
    rw (← p) at q

-- the data frame, its last byte apart
pub frame_but_last : (c : ℕ) (m : List ℕ) → data_frame c m ≡ ReceiverLaws.headed (suc (length m)) ((c ∷ m) ++ checksum (c ∷ m) ∷ []) ++ 0x16 ∷ []
unfolding data_frame
frame_but_last c m = rw (append_snoc m (checksum (c ∷ m)) (0x16 ∷ []))

pub begins_tested : (g : List ℕ) → Begins g → T (is_beginning g)
begins_tested g b = go b.sound
  where
    go : Sound (g ++ b.rest) → T (is_beginning g)
    go (fixed c h e) = stops_short g b.rest (0x10 ∷ c ∷ c ∷ []) 0x16 b.more (e ∙ (unfold fixed_frame in refl)) (fixed_beginning c)
    go (carries c m t h e) =
        stops_short g b.rest (ReceiverLaws.headed (suc (length m)) ((c ∷ m) ++ checksum (c ∷ m) ∷ [])) 0x16 b.more (e ∙ frame_but_last c m)
        (summed_beginning (suc (length m)) (c ∷ m) (omega arith) (omega arith) refl)

-- n bytes of control and data behind the head make a sound frame
framed : (n : ℕ) (b : List ℕ) → 1 ≤ n → n ≤ 255 → length b ≡ n → T (are_bytes b) → Sound (ReceiverLaws.headed n (b ++ checksum b ∷ 0x16 ∷ []))
framed n [] p q h t = absurd (omega arith)
framed n (c ∷ m) p q h t = carries c m t (omega arith) (unfold data_frame in (rw (← h)))

zeros_bytes : (k : ℕ) → T (are_bytes (replicate k 0))
unfolding are_bytes
zeros_bytes zero = tt
zeros_bytes (suc k) = zeros_bytes k

-- control and data may go on with zeros
filled : (n : ℕ) (b : List ℕ) → 1 ≤ n → n ≤ 255 → length b ≤ n → T (are_bytes b) → Begins (ReceiverLaws.headed n b)
filled n b p q h t = record { rest = zs ++ checksum (b ++ zs) ∷ 0x16 ∷ []; more = omega (arith, length-append zs (checksum (b ++ zs) ∷ 0x16 ∷ [])); sound = s }
  where
    zs : List ℕ
    zs = replicate (n - length b) 0

    s : Sound (ReceiverLaws.headed n b ++ (zs ++ checksum (b ++ zs) ∷ 0x16 ∷ []))
    s =
        rw (← append_assoc b zs (checksum (b ++ zs) ∷ 0x16 ∷ []))
        (framed n (b ++ zs) p q (omega (arith, length-append b zs, length-replicate {A = ℕ} (n - length b) 0)) (unfold are_bytes in every_append (λ x. ltb x 256) b zs (unfold are_bytes in t) (unfold are_bytes in zeros_bytes (n - length b))))

byte : (x : ℕ) → x < 256 → T (are_bytes (x ∷ []))
unfolding are_bytes
byte x h = both (ltb x 256) true (lt→ltb x 256 h) tt

begins_fixed : (c : ℕ) (g rest : List ℕ) → 0 < length rest → c < 256 → g ++ rest ≡ 0x10 ∷ c ∷ c ∷ 0x16 ∷ [] → Begins g
begins_fixed c g rest m h e = record { rest = rest; more = m; sound = fixed c h (e ∙ (unfold fixed_frame in refl)) }

pub tested_begins : (g : List ℕ) → T (are_bytes g) → T (is_beginning g) → Begins g
unfolding are_bytes
tested_begins g bytes t = go (ReceiverLaws.beginning_stands g t)
  where
    second : (a n : ℕ) (s : List ℕ) → g ≡ a ∷ n ∷ s → n < 256
    second a n s e = bytes_at (a ∷ n ∷ s) 1 (rw e at bytes)

    behind : (n : ℕ) (b : List ℕ) → g ≡ ReceiverLaws.headed n b → T (are_bytes b)
    behind n b e = every_suffix (λ x. ltb x 256) (ReceiverLaws.headed n []) b (rw e at bytes)

    go : ReceiverLaws.Stands g → Begins g
    go (ReceiverLaws.start e) = begins_fixed 0 g (0x10 ∷ 0 ∷ 0 ∷ 0x16 ∷ []) (omega arith) (omega arith) (rw e)
    go (ReceiverLaws.fixed_1 e) = begins_fixed 0 g (0 ∷ 0 ∷ 0x16 ∷ []) (omega arith) (omega arith) (rw e)
    go (ReceiverLaws.fixed_2 c e) = begins_fixed c g (c ∷ 0x16 ∷ []) (omega arith) (second 0x10 c [] e) (rw e)
    go (ReceiverLaws.fixed_3 c e) = begins_fixed c g (0x16 ∷ []) (omega arith) (second 0x10 c (c ∷ []) e) (rw e)
    go (ReceiverLaws.data_1 e) =
        let b = filled 1 [] (omega arith) (omega arith) (omega arith) tt in
        record { rest = 1 ∷ 1 ∷ 0x68 ∷ b.rest; more = omega arith; sound = rw e b.sound }
    go (ReceiverLaws.data_2 n p q e) =
        let b = filled n [] p q (omega arith) tt in
        record { rest = n ∷ 0x68 ∷ b.rest; more = omega arith; sound = rw e b.sound }
    go (ReceiverLaws.data_3 n p q e) =
        let b = filled n [] p q (omega arith) tt in
        record { rest = 0x68 ∷ b.rest; more = omega arith; sound = rw e b.sound }
    go (ReceiverLaws.body n b p q h e) = rw e (filled n b p q h (behind n b e))
    go (ReceiverLaws.summed n b p q h e) =
        record {
          rest = 0x16 ∷ [];
          more = omega arith;
          sound =
              rw (e, append_snoc b (checksum b) (0x16 ∷ []))
              (framed n b p q h (every_prefix (λ x. ltb x 256) b (checksum b ∷ []) (behind n (b ++ checksum b ∷ []) e)));
        }

-- "a beginning, not the whole, of some sound frame": the test decides it, for lists of bytes
pub begins_decided : (g : List ℕ) → T (are_bytes g) → T (is_beginning g) ↔ Begins g
begins_decided g bytes = (tested_begins g bytes, begins_tested g)

-- a built frame is sound
pub frame_sound : (c : ℕ) (m : List ℕ) → T (are_bytes (c ∷ m)) → length m ≤ 254 → Sound (data_frame c m)
frame_sound c m t h = carries c m t h refl

-- ---- Whole and its test
pub fixed_length : (c : ℕ) → length (fixed_frame c) ≡ 4
unfolding fixed_frame
fixed_length c = refl

pub frame_length : (c : ℕ) (m : List ℕ) → length (data_frame c m) ≡ length m + 7
unfolding data_frame
frame_length c m = omega (arith, length-append m (checksum (c ∷ m) ∷ 0x16 ∷ []))

pub frame_message : (c : ℕ) (m : List ℕ) → message_of (data_frame c m) ≡ m
unfolding message_of
frame_message c m = rw (frame_length c m) (unfold data_frame in take_at m (checksum (c ∷ m) ∷ 0x16 ∷ []) (length m + 7 - 7) (omega arith))

pub whole_tested : (c : ℕ) (f : List ℕ) → Whole c f → T (is_whole c f)
unfolding is_whole
whole_tested c f w =
    both (leb (length f) 261) (same f (data_frame c (message_of f)))
    (le→leb (length f) 261 (omega (arith, ap length w.frame, frame_length c w.carried, w.short)))
    (eq→same f (data_frame c (message_of f)) (w.frame ∙ ap (data_frame c) (sym (ap message_of w.frame ∙ frame_message c w.carried))))

pub tested_whole : (c : ℕ) (f : List ℕ) → T (is_whole c f) → Whole c f
unfolding is_whole
tested_whole c f t =
    record {
      carried = message_of f;
      short = unfold message_of in omega (arith, length-take (length f - 7) (drop 5 f), leb→le (length f) 261 (left (leb (length f) 261) (same f (data_frame c (message_of f))) t));
      frame = same→eq f (data_frame c (message_of f)) (right (leb (length f) 261) (same f (data_frame c (message_of f))) t);
    }

-- "a whole [..] data frame": the test decides it
pub whole_decided : (c : ℕ) (f : List ℕ) → T (is_whole c f) ↔ Whole c f
whole_decided c f = (tested_whole c f, whole_tested c f)

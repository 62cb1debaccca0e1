-- A script goes on: what each line does and asks is done and asked of the whole.
use Rattle.std.proofs.Common.{◌≡◌, ℕ, zero, suc, eqb-true, ◌<◌, ◌≤◌, Bool, true, false, ◌&&◌, eqb, List, [], ◌∷◌, length, get_or, take, drop, sym, refl, ap, ◌∙◌, arith, ne_eqb}
use Rattle.calls.specs.declared.event.Event.TheVariants.{IdleMark}
use Rattle.cases.specs.Bench.{Bench}
use Rattle.cases.specs.Run.{Stand}
use Rattle.cases.specs.Bench.{empty_bench, with_value}
use Rattle.cases.specs.Read.{ReadsAs}
use Rattle.cases.specs.Run.{happened, quiet, Sends, stand_after}
use Rattle.cases.specs.Same.{Decides, SameTables, LinkIs}
use Rattle.cases.proofs.SameLaws.{false_true, shown, left_to}
use Rattle.script.specs.Line.{Line}
use Rattle.script.specs.Line.{listed, lines, line_end, read_line}
use Rattle.cases.specs.Burst.{FindsAs}
use Rattle.cases.specs.Lent.{built}
use Rattle.cases.specs.Script.{standing, started, marked, numbered, acted, Damaged, Right, AllRight, Played}
use Rattle.script.proofs.LineLaws.{lines_next, end_within, end_some}

-- ---- what happens by a line: a law for each letter
pub mark_quiet : (b b' : Bench) (q : Bool) → b' ≡ happened IdleMark b → q ≡ quiet b' → standing b' q 1000 ≡ marked b
unfolding marked
mark_quiet b b' q eb eq = rw (eq, eb) refl

module _ (l : Line) (w : Bench) (s : Stand) where
  pub starts : l.letter ≡ 0x73 → acted l w s ≡ started w l.bytes
  unfolding acted
  starts e = rw e refl

  pub host_sends : l.letter ≡ 0x68 → acted l w s ≡ stand_after (listed l) s.bench
  unfolding acted
  host_sends e = rw e refl

  pub silence : l.letter ≡ 0x6D → acted l w s ≡ marked s.bench
  unfolding acted
  silence e = rw e refl

  pub value_lent : l.letter ≡ 0x62 → acted l w s ≡ standing (with_value l s.bench) true 1000
  unfolding acted
  value_lent e = rw e refl

  pub event_comes : l.letter ≡ 0x6E → acted l w s ≡ numbered l.bytes s.bench
  unfolding acted
  event_comes e = rw e refl

  pub nothing_happens : (l.letter ≡ 0x73 → ⊥) → (l.letter ≡ 0x68 → ⊥) → (l.letter ≡ 0x6D → ⊥) → (l.letter ≡ 0x62 → ⊥) → (l.letter ≡ 0x6E → ⊥) → acted l w s ≡ s
  unfolding acted
  nothing_happens t h m b n = rw (ne_eqb _ _ t, ne_eqb _ _ h, ne_eqb _ _ m, ne_eqb _ _ b, ne_eqb _ _ n) refl

-- ---- what a line asks: a law for each letter
module _ (l : Line) (w : Bench) (s : Stand) (q : s.quiet ≡ true) where
  pub replied : {r : Bool} → l.letter ≡ 0x72 → Decides r (Sends s.bench (listed l)) → Decides r (Right l w s)
  replied e d =
      left_to d
      (λ p. record { silent = q; reply = λ _. p; damage = λ x. absurd (omega (arith, e, x)); link = λ x. absurd (omega (arith, e, x)); tables = λ x. absurd (omega (arith, e, x)); reading = λ x. absurd (omega (arith, e, x)); burst = λ x. absurd (omega (arith, e, x)) })
      (λ y. y.reply e)

  pub damage_found : {r : Bool} → l.letter ≡ 0x78 → Decides r (Damaged (get_or l.bytes 0 0) s.place s.bench) → Decides r (Right l w s)
  damage_found e d =
      left_to d
      (λ p. record { silent = q; reply = λ x. absurd (omega (arith, e, x)); damage = λ _. p; link = λ x. absurd (omega (arith, e, x)); tables = λ x. absurd (omega (arith, e, x)); reading = λ x. absurd (omega (arith, e, x)); burst = λ x. absurd (omega (arith, e, x)) })
      (λ y. y.damage e)

  pub linked : {r : Bool} → l.letter ≡ 0x6C → Decides r (LinkIs s.bench.link (listed l)) → Decides r (Right l w s)
  linked e d =
      left_to d
      (λ p. record { silent = q; reply = λ x. absurd (omega (arith, e, x)); damage = λ x. absurd (omega (arith, e, x)); link = λ _. p; tables = λ x. absurd (omega (arith, e, x)); reading = λ x. absurd (omega (arith, e, x)); burst = λ x. absurd (omega (arith, e, x)) })
      (λ y. y.link e)

  pub compared : {r : Bool} → l.letter ≡ 0x74 → Decides r (SameTables s.bench w) → Decides r (Right l w s)
  compared e d =
      left_to d
      (λ p. record { silent = q; reply = λ x. absurd (omega (arith, e, x)); damage = λ x. absurd (omega (arith, e, x)); link = λ x. absurd (omega (arith, e, x)); tables = λ _. p; reading = λ x. absurd (omega (arith, e, x)); burst = λ x. absurd (omega (arith, e, x)) })
      (λ y. y.tables e)

  pub given : {r : Bool} → l.letter ≡ 0x67 → Decides r (ReadsAs s.bench l.bytes) → Decides r (Right l w s)
  given e d =
      left_to d
      (λ p. record { silent = q; reply = λ x. absurd (omega (arith, e, x)); damage = λ x. absurd (omega (arith, e, x)); link = λ x. absurd (omega (arith, e, x)); tables = λ x. absurd (omega (arith, e, x)); reading = λ _. p; burst = λ x. absurd (omega (arith, e, x)) })
      (λ y. y.reading e)

  pub found : {r : Bool} → l.letter ≡ 0x75 → Decides r (FindsAs (listed l)) → Decides r (Right l w s)
  found e d =
      left_to d
      (λ p. record { silent = q; reply = λ x. absurd (omega (arith, e, x)); damage = λ x. absurd (omega (arith, e, x)); link = λ x. absurd (omega (arith, e, x)); tables = λ x. absurd (omega (arith, e, x)); reading = λ x. absurd (omega (arith, e, x)); burst = λ _. p })
      (λ y. y.burst e)

  pub nothing_asked : (l.letter ≡ 0x72 → ⊥) → (l.letter ≡ 0x78 → ⊥) → (l.letter ≡ 0x6C → ⊥) → (l.letter ≡ 0x74 → ⊥) → (l.letter ≡ 0x67 → ⊥) → (l.letter ≡ 0x75 → ⊥) → Decides true (Right l w s)
  nothing_asked nr nx nl nt ng nu =
      shown (record { silent = q; reply = λ e. absurd (nr e); damage = λ e. absurd (nx e); link = λ e. absurd (nl e); tables = λ e. absurd (nt e); reading = λ e. absurd (ng e); burst = λ e. absurd (nu e) })

-- ---- the loop: what is left of the script asks the rest
pub record Playing (t : List ℕ) (w : Bench) (s : Stand) (r : Bool) (rest : List ℕ) : Type 0 where
  pub ahead : (r ≡ true) × AllRight (lines rest) w s → Played t
  pub back : Played t → (r ≡ true) × AllRight (lines rest) w s

pub playing_begins : (t : List ℕ) (w : Bench) (s : Stand) → w ≡ empty_bench → s ≡ standing empty_bench true 1000 → Playing t w s true t
unfolding Played
playing_begins t w s e f = rw (e, f) (record { ahead = λ x. x.1; back = λ y. (refl, y) })

both_hold : (p q : Bool) → (p && q) ≡ true → (p ≡ true) × (q ≡ true)
both_hold true q e = (refl, e)
both_hold false q e = absurd (false_true e)

-- the rest of a script, and its first line
module _ (rest : List ℕ) (e : ℕ) (l : 0 < length rest) (ee : e ≡ line_end rest) where
  pub line_within : e ≤ length rest
  line_within = omega (arith, ee, end_within rest)

  pub line_some : 1 ≤ e
  line_some = let h = end_some rest l in omega (arith, ee, h)

  next : lines rest ≡ take e rest ∷ lines (drop e rest)
  next = rw ee (lines_next rest l)

  pub playing_goes : (t : List ℕ) (w w' : Bench) (s s' : Stand) (line : Line) (r h r' : Bool)
      → line ≡ read_line (take e rest) → w' ≡ built line w → s' ≡ acted line w' s → Decides h (Right line w' s') → r' ≡ (r && h)
      → Playing t w s r rest → Playing t w' s' r' (drop e rest)
  unfolding AllRight
  playing_goes t w w' s s' line r h r' k ew es d er p =
      let L = read_line (take e rest) in
      let W : w' ≡ built L w = ew ∙ ap (λ (x : Line). built x w) k in
      let S : s' ≡ acted L (built L w) s = es ∙ rw (k, W) refl in
      let D : Decides h (Right L (built L w) (acted L (built L w) s)) = rw (S, W, k) at d in
      rw (W, S)
      (record {
        ahead = λ x. let y = both_hold r h (sym er ∙ x.0) in p.ahead (y.0, rw next (D.0 y.1, x.1));
        back = λ y. let x = p.back y in let z = rw next at x.1 in (er ∙ rw x.0 (D.1 z.0), z.1);
      })

-- what a test for an empty list tells
pub some_left : (n : ℕ) → false ≡ eqb n 0 → 0 < n
some_left zero e = absurd (false_true e)
some_left (suc n) e = omega arith

pub none_left : (n : ℕ) → true ≡ eqb n 0 → n ≡ 0
none_left n e = eqb-true n 0 (sym e)

pub playing_ends : (t : List ℕ) (w : Bench) (s : Stand) (r : Bool) (rest : List ℕ) → length rest ≡ 0 → Playing t w s r rest → Decides r (Played t)
unfolding AllRight lines
playing_ends t w s r [] e p = ((λ x. p.ahead (x, refl)), (λ y. (p.back y).0))
playing_ends t w s r (x ∷ xs) e p = absurd (omega (arith, e))

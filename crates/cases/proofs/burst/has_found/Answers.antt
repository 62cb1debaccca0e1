use Rattle.std.proofs.Common.{◌≡◌, ℕ, ◌+◌, length, take, drop, refl, ap, ◌∙◌, arith, drop-drop, length-drop}
use Rattle.words.proofs.WordLaws.{rest_whole}
use Rattle.ft12.specs.Burst.{burst_numbers}
use Rattle.ft12.proofs.BurstLaws.{by_number}
use Rattle.cases.specs.Burst.{start_count, burst_of}
use Rattle.cases.proofs.BurstLaws.{WasRead, found_decided}
use Rattle.cases.proofs.burst.has_found.Goals as goal

pub returns : goal.returns
returns c =
    let a = c.args.a.now in
    let p = c.in-Some.ensures.cases in
    let e = rest_whole 3 a in
    let k : c.from.result + c.from-2.result ≡ start_count a = omega (arith, c.from.ensures, c.from-2.ensures) in
    let b : c.in-Some.burst.now ≡ burst_of a =
    p.2 ∙ ap (drop _) e ∙ drop-drop (c.from.result + c.from-2.result) 3 a ∙ ap (λ (j : ℕ). drop (3 + j) a) k in
    let w : WasRead a c.in-Some.wanted.now c.burst_numbers.result c.read_burst.new.starts = record {
      whole = omega (arith, k, p.0, ap length e, length-drop 3 a);
      short = c.requires;
      said = p.1 ∙ (λ i. take (k i) (e i));
      lent = _;
      room = refl;
      reply = _;
      leaves = rw b at c.read_burst.ensures.leaves;
      told = c.burst_numbers.ensures ∙ ap burst_numbers (by_number c.read_burst.result c.map_err-reply.result c.map_err-reply.ensures.cases);
    } in
    found_decided _ _ _ _ w c.are_numbers.ensures c.are_starts.ensures

use Rattle.std.proofs.Common.{◌≡◌, ℕ, ◌-◌, List, length, drop, length-drop, sym, ◌∙◌, ap, arith}
use lib.Seq.{take_all, length-take-le}
use Rattle.words.specs.Words.{put}
use Rattle.baos.specs.Table.{parameters_only}
use Rattle.baos.specs.Message.{Finding, coded, Served, verdict_of, finding_of, fine}
use Rattle.baos.specs.Set.{set_parameter_finding}
use Rattle.baos.proofs.ServiceLaws.{bad_set_parameter, fine_set_parameter}
use Rattle.baos.proofs.WrittenLaws.{written_as}
use Rattle.baos.proofs.SetParameterLaws.{Passed, passed}
use Rattle.parameters.proofs.parameter.set_parameters.Goals as goal

-- what a request has that the checks find nothing wrong with
let_through : (count : ℕ) (m : List ℕ) → fine ≡ set_parameter_finding count m → Passed count m
unfolding verdict_of
let_through count m f = passed count m (ap (λ (x : Finding). (verdict_of x).code) (sym f))

pub overflow_sub-start : goal.overflow_sub-start
unfolding finding_of
overflow_sub-start c =
    let p = let_through _ _ c.in-Ok.ensures in
    omega (arith, c.start_of-start.ensures, p.from_one)

pub put_bytes-requires : goal.put_bytes-requires
unfolding finding_of
put_bytes-requires c =
    let m = c.args.request.message.now in
    let p = let_through _ _ c.in-Ok.ensures in
    omega (arith, c.start_of-start.ensures, p.fits, length-take-le (length m - 6) (drop 6 m) (omega (arith, length-drop 6 m)), length-drop 6 m)

pub returns-in-Err : goal.returns-in-Err
unfolding finding_of
returns-in-Err c =
    let a = c.args in
    let s = bad_set_parameter (parameters_only a.parameters.now) a.request.message.now (sym c.in-Err.ensures) in
    let w = written_as a.out.now a.at c.put_fault.ensures (ap (λ (x : Served). x.says) s) in
    record { table = sym (ap (λ (x : Served). x.after.parameters) s); buffer = w.buffer; ends = w.ends }

pub returns-in-Ok : goal.returns-in-Ok
unfolding finding_of
returns-in-Ok c =
    let a = c.args in
    let m = a.request.message.now in
    let ps = a.parameters.now in
    let start = c.start_of-start.ensures in
    let s = fine_set_parameter (parameters_only ps) m (sym c.in-Ok.ensures) in
    let w = written_as a.out.now a.at c.put_coded.ensures (ap (λ (x : Served). x.says) s ∙ ap (λ (i : ℕ). coded m i 0) (sym start)) in
    record {
      table = c.put_bytes.ensures ∙ (λ i. put ps (start i - 1) (take_all (length m - 6) (drop 6 m) (omega (arith, length-drop 6 m)) i)) ∙ sym (ap (λ (x : Served). x.after.parameters) s);
      buffer = w.buffer;
      ends = w.ends;
    }

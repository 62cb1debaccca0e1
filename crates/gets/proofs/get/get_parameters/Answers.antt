-- The head, and the bytes behind it, are one write.
use Rattle.std.proofs.Common.{sym, ◌∙◌, ap, ℕ, ◌+◌, List, ◌∷◌, ◌++◌, length, length-append, arith}
use Rattle.words.proofs.ByteLaws.{put-put}
use Rattle.words.specs.Words.{put, two_bytes}
use Rattle.baos.specs.Message.{sub_service, start_of}
use Rattle.gets.proofs.get.get_parameters.Goals as goal

pub returns-in-Ok : goal.returns-in-Ok
returns-in-Ok c =
    let a = c.args in
    let m = a.request.message.now in
    let b = c.in-Ok.bytes.now in
    let p = c.in-Ok.ensures in
    let h = c.put_answer_head-end.ensures in
    let head : List ℕ = 0xF0 ∷ (sub_service m + 0x80) ∷ two_bytes (start_of m) ++ two_bytes (length b) in
    record {
      buffer =
          c.put_bytes.ensures
          ∙ ap (λ (o : List ℕ). put o c.put_answer_head-end.result b) h.buffer
          ∙ put-put a.out.now a.at c.put_answer_head-end.result head b (omega (arith, h.ends)) (omega (arith, p.0))
          ∙ ap (put a.out.now a.at) (sym p.1);
      ends = omega (arith, h.ends, ap length p.1, length-append head b);
    }

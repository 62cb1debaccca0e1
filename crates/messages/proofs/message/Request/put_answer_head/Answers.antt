use Rattle.messages.proofs.message.Request.put_answer_head.Goals as goal

pub returns : goal.returns
returns c = rw (c.sub_service_of.ensures, c.start_of.ensures) at c.put_head.ensures

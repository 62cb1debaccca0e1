-- A law of HostByteLaws for each exit: no request was heard; a request is carried out, and its answer taken back.
use Rattle.std.proofs.Common.{◌≡◌, ℕ, ◌-◌, T, take, drop, sym, refl, ap, arith}
use Rattle.ft12.specs.declared.record.Link.{Link}
use Rattle.ft12.specs.declared.rules.Heard.{Heard}
use Rattle.ft12.specs.declared.rules.Heard.TheVariants.{Gathered, Dropped, Ignored, Acknowledged, Reset, Repeat, Request}
use Rattle.ft12.specs.Record.{line_of, in_range}
use Rattle.ft12.specs.Rules.{heard_at}
use Rattle.ft12.proofs.RequestLaws.{host_byte_range, request_at}
use Rattle.baos.specs.Text.{text_lists}
use Rattle.baos.specs.Table.{tables_of}
use Rattle.calls.specs.Promise.{request_l}
use Rattle.calls.proofs.HostByteLaws.{no_request, taken_short, cleared_range, answered_room, carry_needs, request_answered}
use Rattle.server.proofs.host_byte.on_host_byte.Goals as goal

-- whether a request was heard, and its L
unasked : (h : Heard) → ((n : ℕ) → h ≡ Request n → ⊥) → request_l h ≡ 0
unfolding request_l
unasked Gathered z = refl
unasked Dropped z = refl
unasked Ignored z = refl
unasked Acknowledged z = refl
unasked Reset z = refl
unasked Repeat z = refl
unasked (Request n) z = absurd (z n refl)

asked_l : (h : Heard) (l : ℕ) → Request l ≡ h → l ≡ request_l h
unfolding request_l
asked_l h l e = ap request_l e

module _ (b : ℕ) (k : Link) (r : T (in_range k)) (l : ℕ) (e : Request l ≡ heard_at b (line_of k)) where
  not_none : request_l (heard_at b (line_of k)) ≡ 0 → ⊥
  not_none q = omega (arith, q, asked_l _ l e, (request_at k b l r (sym e)).one)

pub returns-in_default : goal.returns-in_default
returns-in_default c =
    let a = c.args in
    let h = c.host_byte-heard.ensures in
    rw (c.acknowledge-sent.ensures.0, c.acknowledge-sent.ensures.1, h.link, h.answer)
    (no_request a.b a.link.now a.out.now (tables_of a.datapoints.now a.items.now a.parameters.now (text_lists a.site.now a.defaults.now)) c.requires.1
    (rw h.answer at (unasked c.host_byte-heard.result c.in_default.not-Request)))

pub request_message-message-requires : goal.request_message-message-requires
request_message-message-requires c = (request_at c.args.link.now c.args.b c.in-Request.l c.requires.1 (sym c.in-Request.ensures.answer)).one

pub carry_out-answered-requires : goal.carry_out-answered-requires
carry_out-answered-requires c =
    let a = c.args in
    let h = c.in-Request.ensures in
    rw (c.acknowledge-sent.ensures.0, c.request_message-message.ensures, asked_l _ c.in-Request.l h.answer, h.link, c.host_byte-heard.ensures.answer)
    (carry_needs a.b a.link.now a.out.now a.datapoints.now a.items.now a.parameters.now (text_lists a.site.now a.defaults.now) c.requires.2 c.requires.1
    (not_none a.b a.link.now c.requires.1 c.in-Request.l h.answer) c.requires.0)

pub clear_request-requires : goal.clear_request-requires
clear_request-requires c = rw c.host_byte-heard.ensures.link (host_byte_range c.args.link.now c.requires.1 c.args.b)

pub take_message-framed-requires : goal.take_message-framed-requires
take_message-framed-requires c =
    let a = c.args in
    let h = c.in-Request.ensures in
    rw (c.clear_request.ensures, c.carry_out-answered.ensures.buffer, c.acknowledge-sent.ensures.0, c.request_message-message.ensures, asked_l _ c.in-Request.l h.answer, h.link, c.host_byte-heard.ensures.answer) (
      cleared_range _ (host_byte_range a.link.now c.requires.1 a.b),
      omega arith,
      answered_room a.b a.link.now a.out.now a.datapoints.now a.items.now a.parameters.now (text_lists a.site.now a.defaults.now) c.requires.2,
    )

pub overflow_add-result : goal.overflow_add-result
overflow_add-result c =
    omega (arith, c.take_message-framed.ensures.answer, taken_short (take (c.carry_out-answered.result - 6) (drop 6 c.carry_out-answered.new.out)) (line_of c.clear_request.new.link))

pub returns : goal.returns
returns c =
    let a = c.args in
    let h = c.in-Request.ensures in
    rw (
      c.take_message-framed.ensures.answer,
      c.take_message-framed.ensures.buffer,
      c.take_message-framed.ensures.link,
      c.clear_request.ensures,
      c.carry_out-answered.ensures.ends,
      c.carry_out-answered.ensures.buffer,
      c.carry_out-answered.ensures.datapoints,
      c.carry_out-answered.ensures.items,
      c.carry_out-answered.ensures.parameters,
      c.acknowledge-sent.ensures.0,
      c.request_message-message.ensures,
      asked_l _ c.in-Request.l h.answer,
      h.link,
      c.host_byte-heard.ensures.answer,
    )
    (request_answered a.b a.link.now a.out.now a.datapoints.now a.items.now a.parameters.now (text_lists a.site.now a.defaults.now) c.requires.2 c.requires.1
    (not_none a.b a.link.now c.requires.1 c.in-Request.l h.answer))

-- A law of CallJoins for each exit, and what it says of all that is lent that nothing is refused.
use Rattle.std.proofs.Common.{◌≡◌, ◌≢◌, ℕ, length, sym, arith}
use Rattle.std.proofs.lemmas.Result.{err_from_is_err_and}
use borrow.Author.Tests.{eq-eqb, ne_eqb}
use Rattle.words.proofs.WordLaws.{true_T}
use Rattle.ft12.specs.declared.record.Link.{Link}
use Rattle.ft12.specs.Record.{holds_frame}
use Rattle.baos.specs.Text.{text_lists}
use Rattle.baos.specs.Table.{Tables, tables_of}
use Rattle.calls.specs.declared.refusal.Refusal.{Refusal}
use Rattle.calls.specs.declared.refusal.Refusal.TheVariants.{TableNotWellFormed, LinkNotInRange, NoRoom, BadBusEvent}
use Rattle.calls.specs.Reply.{refusal_number}
use Rattle.calls.specs.Promise.{lent_refusal}
use Rattle.calls.proofs.CallJoins.{Lent, lent_passed, lent_datapoints, same_event, leaves_refused, leaves_host_byte, leaves_idle_mark, leaves_ack_wait, leaves_poll, leaves_bus_value, leaves_outcome}
use Rattle.server.proofs.call.call.Goals as goal

-- nothing is refused: the tables and the link record are in order, and there is room
passed : (t : Tables) (k : Link) (room : ℕ) → 0 ≡ lent_refusal (holds_frame k) t k room → Lent t k room
passed t k room e = lent_passed t k room (eq-eqb (lent_refusal (holds_frame k) t k room) 0 (sym e))

-- a refusal's number is not 0
refuses : (r : Refusal) (n : ℕ) → refusal_number r ≡ n → n ≢ 0
refuses TableNotWellFormed n e z = omega (arith, e, z)
refuses LinkNotInRange n e z = omega (arith, e, z)
refuses NoRoom n e z = omega (arith, e, z)
refuses BadBusEvent n e z = omega (arith, e, z)

pub returns-in_err-check_lent : goal.returns-in_err-check_lent
returns-in_err-check_lent c =
    let a = c.args in
    let t = tables_of a.datapoints.now a.items.now a.parameters.now (text_lists a.site.now a.defaults.now) in
    let p = err_from_is_err_and c.from_residual.result c.from_residual.ensures.1 in
    let h = c.in_err-check_lent.ensures in
    rw (p.1, p.2, h)
    (leaves_refused a.event a.value.now t a.link.now a.out.now (ne_eqb (lent_refusal (holds_frame a.link.now) t a.link.now (length a.out.now)) 0 (refuses _ _ h)))

pub on_host_byte-requires : goal.on_host_byte-requires
on_host_byte-requires c =
    let p = (passed (tables_of c.args.datapoints.now c.args.items.now c.args.parameters.now (text_lists c.args.site.now c.args.defaults.now)) c.args.link.now (length c.args.out.now) c.in_ok-check_lent.ensures) in
    (true_T p.tables, true_T p.link, p.output)

pub idle_mark-requires : goal.idle_mark-requires
idle_mark-requires c = true_T (passed (tables_of c.args.datapoints.now c.args.items.now c.args.parameters.now (text_lists c.args.site.now c.args.defaults.now)) c.args.link.now (length c.args.out.now) c.in_ok-check_lent.ensures).link

pub ack_wait_over-requires : goal.ack_wait_over-requires
ack_wait_over-requires c =
    let p = (passed (tables_of c.args.datapoints.now c.args.items.now c.args.parameters.now (text_lists c.args.site.now c.args.defaults.now)) c.args.link.now (length c.args.out.now) c.in_ok-check_lent.ensures) in
    (true_T p.link, p.output)

pub on_poll-requires : goal.on_poll-requires
on_poll-requires c =
    let p = (passed (tables_of c.args.datapoints.now c.args.items.now c.args.parameters.now (text_lists c.args.site.now c.args.defaults.now)) c.args.link.now (length c.args.out.now) c.in_ok-check_lent.ensures) in
    (lent_datapoints c.args.datapoints.now c.args.items.now c.args.parameters.now (text_lists c.args.site.now c.args.defaults.now) p.tables, true_T p.link, p.output)

pub on_bus_event-requires : goal.on_bus_event-requires
on_bus_event-requires c = lent_datapoints c.args.datapoints.now c.args.items.now c.args.parameters.now (text_lists c.args.site.now c.args.defaults.now) (passed (tables_of c.args.datapoints.now c.args.items.now c.args.parameters.now (text_lists c.args.site.now c.args.defaults.now)) c.args.link.now (length c.args.out.now) c.in_ok-check_lent.ensures).tables

pub on_bus_event-requires-in-TransmissionOutcome : goal.on_bus_event-requires-in-TransmissionOutcome
on_bus_event-requires-in-TransmissionOutcome c = lent_datapoints c.args.datapoints.now c.args.items.now c.args.parameters.now (text_lists c.args.site.now c.args.defaults.now) (passed (tables_of c.args.datapoints.now c.args.items.now c.args.parameters.now (text_lists c.args.site.now c.args.defaults.now)) c.args.link.now (length c.args.out.now) c.in_ok-check_lent.ensures).tables

pub returns-in-HostByte : goal.returns-in-HostByte
returns-in-HostByte c =
    same_event _ _ _ _ _ _ c.in-HostByte.is
    (leaves_host_byte c.args.value.now (tables_of c.args.datapoints.now c.args.items.now c.args.parameters.now (text_lists c.args.site.now c.args.defaults.now)) c.args.link.now c.args.out.now (passed (tables_of c.args.datapoints.now c.args.items.now c.args.parameters.now (text_lists c.args.site.now c.args.defaults.now)) c.args.link.now (length c.args.out.now) c.in_ok-check_lent.ensures) c.in-HostByte.b _ _ _ _ c.on_host_byte.ensures)

pub returns-in-IdleMark : goal.returns-in-IdleMark
returns-in-IdleMark c =
    rw c.idle_mark.ensures
    (same_event _ _ _ _ _ _ c.in-IdleMark.is (leaves_idle_mark c.args.value.now (tables_of c.args.datapoints.now c.args.items.now c.args.parameters.now (text_lists c.args.site.now c.args.defaults.now)) c.args.link.now c.args.out.now (passed (tables_of c.args.datapoints.now c.args.items.now c.args.parameters.now (text_lists c.args.site.now c.args.defaults.now)) c.args.link.now (length c.args.out.now) c.in_ok-check_lent.ensures)))

pub returns-in-AckWaitOver : goal.returns-in-AckWaitOver
returns-in-AckWaitOver c =
    same_event _ _ _ _ _ _ c.in-AckWaitOver.is
    (leaves_ack_wait c.args.value.now (tables_of c.args.datapoints.now c.args.items.now c.args.parameters.now (text_lists c.args.site.now c.args.defaults.now)) c.args.link.now c.args.out.now (passed (tables_of c.args.datapoints.now c.args.items.now c.args.parameters.now (text_lists c.args.site.now c.args.defaults.now)) c.args.link.now (length c.args.out.now) c.in_ok-check_lent.ensures) _ _ _ c.ack_wait_over.ensures)

pub returns-in-Poll : goal.returns-in-Poll
returns-in-Poll c =
    same_event _ _ _ _ _ _ c.in-Poll.is
    (leaves_poll c.args.value.now c.args.datapoints.now c.args.items.now c.args.parameters.now (text_lists c.args.site.now c.args.defaults.now) c.args.link.now c.args.out.now (passed (tables_of c.args.datapoints.now c.args.items.now c.args.parameters.now (text_lists c.args.site.now c.args.defaults.now)) c.args.link.now (length c.args.out.now) c.in_ok-check_lent.ensures) _ _ _ _ c.on_poll.ensures)

pub returns-in-BusValue : goal.returns-in-BusValue
returns-in-BusValue c =
    same_event _ _ _ _ _ _ c.in-BusValue.is
    (leaves_bus_value c.args.value.now c.args.datapoints.now c.args.items.now c.args.parameters.now (text_lists c.args.site.now c.args.defaults.now) c.args.link.now c.args.out.now (passed (tables_of c.args.datapoints.now c.args.items.now c.args.parameters.now (text_lists c.args.site.now c.args.defaults.now)) c.args.link.now (length c.args.out.now) c.in_ok-check_lent.ensures) c.in-BusValue.id _ _ c.on_bus_event.ensures)

pub returns-in-TransmissionOutcome : goal.returns-in-TransmissionOutcome
returns-in-TransmissionOutcome c =
    same_event _ _ _ _ _ _ c.in-TransmissionOutcome.is
    (leaves_outcome c.args.value.now c.args.datapoints.now c.args.items.now c.args.parameters.now (text_lists c.args.site.now c.args.defaults.now) c.args.link.now c.args.out.now (passed (tables_of c.args.datapoints.now c.args.items.now c.args.parameters.now (text_lists c.args.site.now c.args.defaults.now)) c.args.link.now (length c.args.out.now) c.in_ok-check_lent.ensures) c.in-TransmissionOutcome.id c.in-TransmissionOutcome.outcome _ _ c.on_bus_event-in-TransmissionOutcome.ensures)

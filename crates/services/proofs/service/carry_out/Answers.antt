-- One law of CarryJoins for each exit: what the called service wrote and left is what carrying the message out leaves.
use Rattle.std.proofs.Common.{◌≡◌, ℕ, List, sym, ap, ◌∙◌}
use Rattle.baos.specs.declared.service.Service.{Service}
use Rattle.baos.specs.Message.{sub_service, code_number}
use Rattle.baos.specs.ServiceNumber.{service_number}
use Rattle.baos.proofs.CarryJoins.{carry_nothing, carry_get_items, carry_set_items, carry_descriptions, carry_strings, carry_values, carry_set_values, carry_parameters, carry_set_parameters, carry_unknown}
use Rattle.services.proofs.service.carry_out.Goals as goal

-- the message, which is the request's, names this service
names : {s v : Service} {n : ℕ} {m r : List ℕ} → r ≡ m → service_number s ≡ n → n ≡ sub_service r → s ≡ v → sub_service m ≡ service_number v
names p e f i = sym (ap sub_service p) ∙ sym f ∙ sym e ∙ ap service_number i

pub returns-in_default : goal.returns-in_default
returns-in_default c = carry_nothing _ _ _ _ c.args.m.now _ _ c.in_default.ensures

pub returns-in_default-try_from : goal.returns-in_default-try_from
unfolding code_number
returns-in_default-try_from c =
    let r = c.in-Some.ensures in
    carry_unknown _ _ _ _ c.args.m.now _ _ r.1
    (rw (c.sub_service_of.ensures, r.0) at c.in_default-try_from.ensures) (rw (c.start_of.ensures, r.0) at c.put_fault.ensures)

pub returns-in-GetServerItem : goal.returns-in-GetServerItem
returns-in-GetServerItem c =
    let r = c.in-Some.ensures in
    carry_get_items _ _ _ _ c.args.m.now _ _ r.1
    (names r.0 c.in-Ok.ensures c.sub_service_of.ensures c.in-GetServerItem.is) (rw r.0 at c.get_items.ensures)

pub returns-in-SetServerItem : goal.returns-in-SetServerItem
returns-in-SetServerItem c =
    let r = c.in-Some.ensures in
    carry_set_items _ _ _ _ c.args.m.now _ _ r.1
    (names r.0 c.in-Ok.ensures c.sub_service_of.ensures c.in-SetServerItem.is) (rw r.0 at c.set_items.ensures)

pub returns-in-GetDatapointDescription : goal.returns-in-GetDatapointDescription
returns-in-GetDatapointDescription c =
    let r = c.in-Some.ensures in
    carry_descriptions _ _ _ _ c.args.m.now _ _ r.1
    (names r.0 c.in-Ok.ensures c.sub_service_of.ensures c.in-GetDatapointDescription.is) (rw r.0 at c.get_datapoints.ensures)

pub returns-in-GetDescriptionString : goal.returns-in-GetDescriptionString
returns-in-GetDescriptionString c =
    let r = c.in-Some.ensures in
    carry_strings _ _ _ _ c.args.m.now _ _ r.1
    (names r.0 c.in-Ok.ensures c.sub_service_of.ensures c.in-GetDescriptionString.is) (rw r.0 at c.get_strings.ensures)

pub returns-in-GetDatapointValue : goal.returns-in-GetDatapointValue
returns-in-GetDatapointValue c =
    let r = c.in-Some.ensures in
    carry_values _ _ _ _ c.args.m.now _ _ r.1
    (names r.0 c.in-Ok.ensures c.sub_service_of.ensures c.in-GetDatapointValue.is) (rw r.0 at c.get_datapoints-in-GetDatapointValue.ensures)

pub returns-in-SetDatapointValue : goal.returns-in-SetDatapointValue
returns-in-SetDatapointValue c =
    let r = c.in-Some.ensures in
    carry_set_values _ _ _ _ c.args.m.now _ _ r.1
    (names r.0 c.in-Ok.ensures c.sub_service_of.ensures c.in-SetDatapointValue.is) (rw r.0 at c.set_datapoints.ensures)

pub returns-in-GetParameterByte : goal.returns-in-GetParameterByte
returns-in-GetParameterByte c =
    let r = c.in-Some.ensures in
    carry_parameters _ _ _ _ c.args.m.now _ _ r.1
    (names r.0 c.in-Ok.ensures c.sub_service_of.ensures c.in-GetParameterByte.is) (rw r.0 at c.get_parameters.ensures)

pub returns-in-SetParameterByte : goal.returns-in-SetParameterByte
returns-in-SetParameterByte c =
    let r = c.in-Some.ensures in
    carry_set_parameters _ _ _ _ c.args.m.now _ _ r.1
    (names r.0 c.in-Ok.ensures c.sub_service_of.ensures c.in-SetParameterByte.is) (rw r.0 at c.set_parameters.ensures)

-- The two exits: no event, by `no_event_lem`; an event, by what the server's call promises of its reply and of all that is lent.
use Rattle.std.proofs.Common.{if◌then◌else◌, ◌≡◌, ℕ, Bool, true, false, List, ℤ, Option, Some, None, Result, Ok, Err, refl, sym, ap, ◌∙◌, w32}
use mir.Facts.{to_z-of_z}
use Rattle.std.specs.Result.{MatchResult, IsErrAnd}
use Rattle.ft12.specs.declared.record.Link.{Link}
use Rattle.baos.specs.Text.{text_lists}
use Rattle.baos.specs.Table.{Tables, tables_of}
use Rattle.baos.proofs.TableLaws.{same_tables}
use Rattle.calls.specs.declared.event.Event.{Event}
use Rattle.calls.specs.declared.refusal.Refusal.{Refusal}
use Rattle.calls.specs.Reply.{Reply, Refused, refusal_number, reply_of, reply_by}
use Rattle.calls.specs.Call.{call}
use Rattle.calls.specs.Numbers.{is_event, event_numbered, reply_number}
use Rattle.calls.specs.Exported.{called_by, Gives}
use Rattle.calls.specs.Promise.{Leaves}
use Rattle.calls.proofs.CallLaws.{reply_told}
use Rattle.calls.proofs.ExportedLaws.{no_event_lem, an_event, count_fits}
use Rattle.tagobrelin.proofs.exported.tagobrelin_call.Goals as goal

-- whether the numbers name an event, and which
not_named : (b : Bool) (e : Event) (r : Option Event) → ((x : Event) → r ≡ Some x → ⊥) → r ≡ (if b then Some e else None) → b ≡ false
not_named true e r n q = absurd (n e q)
not_named false e r n q = refl

named : (b : Bool) (e x : Event) → Some x ≡ (if b then Some e else None) → (b ≡ true) × (x ≡ e)
named true e x q = (refl, cc)
named false e x q = cc

-- the refusal by its number says the same
by_number : (r : Result ℕ Refusal) (s : Result ℕ ℕ) → MatchResult r (λ x. s ≡ Ok x) (λ e. IsErrAnd s (λ n. n ≡ refusal_number e)) → reply_by s ≡ reply_of r
by_number (Ok x) s m = ap reply_by m
by_number (Err e) (Ok x) m = absurd m
by_number (Err e) (Err n) m = ap Refused m

-- what the call leaves is what its numbers give
given : (event byte id outcome : ℕ) (v : List ℕ) (t : Tables) (k : Link) (out : List ℕ) → is_event event outcome ≡ true
    → (r : Reply) (n : ℤ) (t' : Tables) (k' : Link) (out' : List ℕ) → n ≡ reply_number r → t'.texts ≡ t.texts
    → Leaves (call (event_numbered event byte id outcome) v t k out) r t' k' out' → Gives (called_by event byte id outcome v t k out) n t' k' out'
given event byte id outcome v t k out e r n t' k' out' is same l =
    let done = call (event_numbered event byte id outcome) v t k out in
    let g = an_event event byte id outcome v t k out e (sym same ∙ ap (λ (x : Tables). x.texts) l.tables) in
    record {
      number = is ∙ ap reply_number (reply_told r done.reply l.reply) ∙ g.number;
      tables = same_tables (ap (λ (x : Tables). x.datapoints) l.tables) (ap (λ (x : Tables). x.items) l.tables) (ap (λ (x : Tables). x.parameters) l.tables) same ∙ g.tables;
      link = l.link ∙ g.link;
      output = l.output ∙ g.output;
    }

pub returns-in_default : goal.returns-in_default
returns-in_default c =
    let a = c.args in
    no_event_lem a.event a.byte a.id a.outcome a.value.now (tables_of a.datapoints.now a.items.now a.parameters.now (text_lists a.site.now a.defaults.now)) a.link.now a.out.now
    (not_named _ _ _ c.in_default.not-Some c.event_named.ensures)

pub reply_number-requires : goal.reply_number-requires
reply_number-requires c =
    let a = c.args in
    let t = tables_of a.datapoints.now a.items.now a.parameters.now (text_lists a.site.now a.defaults.now) in
    rw (by_number c.call-reply.result c.map_err.result c.map_err.ensures.cases, reply_told (reply_of c.call-reply.result) (call c.in-Some.event a.value.now t a.link.now a.out.now).reply c.call-reply.ensures.reply, (named _ _ _ c.in-Some.ensures).1)
    (count_fits a.event a.byte a.id a.outcome a.value.now t a.link.now a.out.now)

pub returns : goal.returns
returns c =
    let a = c.args in
    let t = tables_of a.datapoints.now a.items.now a.parameters.now (text_lists a.site.now a.defaults.now) in
    let n = named _ _ _ c.in-Some.ensures in
    given a.event a.byte a.id a.outcome a.value.now t a.link.now a.out.now n.0 (reply_of c.call-reply.result) _ _ _ _
    (to_z-of_z {w = w32} (record { sfits = c.reply_number.type_inv }) ∙ c.reply_number.ensures ∙ ap reply_number (by_number c.call-reply.result c.map_err.result c.map_err.ensures.cases)) refl (rw n.1 at c.call-reply.ensures)

-- The loop: what is known of the records in front of `rest`, and of those behind the ones that are left.
use Rattle.std.proofs.Common.{◌^◌}
use Rattle.tables.proofs.SearchLaws.{Standing}
use Rattle.tables.proofs.table.search.Given as goal

abbrev pub invariant-loop-power : goal.invariant-loop-power
invariant-loop-power g l = Standing g.R.Record.id_of l.table l.id l.begun (2 ^ l.power) l.rest

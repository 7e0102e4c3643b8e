use Rattle.std.proofs.Common.{◌≡◌, ap, ◌∙◌, refl, None, Some}
use Rattle.plan.specs.Layouts.{table_at, table_named}
use Rattle.row.specs.Cells.{shard}
use Rattle.model.specs.Entries.{change_of}
use Rattle.model.specs.Logs.{key_of}
use Rattle.model.specs.Places.{base_at}
use Rattle.model.specs.Refusals.{write_refusal}
use Rattle.protocol.specs.WorldSteps.{base_for}
use Rattle.sessions.proofs.Callers.{untaken_write}
use Rattle.sessions.proofs.session.Session.write_fitting.Goals as goal

pub returns-in-Err-clause-refused : goal.returns-in-Err-clause-refused
returns-in-Err-clause-refused g c =
    let p = g.J.Naming.plan in
    let e = change_of c.args.entry in
    let t = c.in_ok-table.table in
    let free : write_refusal p (table_named p c.args.table.now) e ≡ None = rw c.plan.ensures at c.in_ok-table.ensures.free in
    let named : table_named p c.args.table.now ≡ Some t = rw c.plan.ensures at c.in_ok-table.ensures.named in
    let place : c.entry_shard-shard.result ≡ shard (key_of (table_at p t).key e) (table_at p t).shards = rw c.plan-2.ensures at c.entry_shard-shard.ensures.shard in
    let number : c.base_at-base.result ≡ base_at p t c.entry_shard-shard.result = rw c.plan-3.ensures at c.base_at-base.ensures.number in
    let base : c.base_at-base.result ≡ base_for p t e = number ∙ ap (base_at p t) place in
    untaken_write p c.args.self.now c.send.new.self c.args.table.now e t c.base_at-base.result c.in-Err.refused (c.if-is_spent.ensures.unspent refl).0 free named base c.in-Err.ensures.untaken

use Rattle.std.proofs.Common.{◌∙◌}
use Rattle.model.specs.Entries.{change_of}
use Rattle.base.proofs.Records.{takes_of, turns_of, records_at, turns_at}
use Rattle.base.proofs.shard.BaseShard.check_changes.Goals as goal

pub returns-clause-turns : goal.returns-clause-turns
returns-clause-turns c =
    let s = c.args.self.now in
    let e = change_of c.args.entry.now in
    let r = c.in_ok-records.ensures in
    rw r.records (turns_of s.key s.rows e (takes_of s.key s.rows e c.in_ok-records.records.items r.records r.count))

pub returns-clause-records_at : goal.returns-clause-records_at
returns-clause-records_at c = λ front at.
    let s = c.args.self.now in
    let e = change_of c.args.entry.now in
    let r = c.in_ok-records.ensures in
    r.records ∙ records_at s front at e (takes_of s.key s.rows e c.in_ok-records.records.items r.records r.count)

pub returns-clause-turns_at : goal.returns-clause-turns_at
returns-clause-turns_at c = λ front at.
    let s = c.args.self.now in
    let e = change_of c.args.entry.now in
    let r = c.in_ok-records.ensures in
    rw r.records (turns_at s front at e (takes_of s.key s.rows e c.in_ok-records.records.items r.records r.count))

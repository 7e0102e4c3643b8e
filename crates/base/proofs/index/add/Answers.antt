use Rattle.std.proofs.Common.{◌<◌, length, rules}
use Rattle.base.proofs.Indexes.{added_wide}
use Rattle.base.proofs.index.add.Goals as goal

pub returns-clause-added : goal.returns-clause-added
returns-clause-added c others h =
    let reach : c.args.rows.now.column < length c.args.row.now = search rules in
    added_wide c.args.rows.now c.add.new.self c.args.row.now others reach c.in_ok-add.ensures.added h

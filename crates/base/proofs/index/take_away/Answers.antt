use Rattle.std.proofs.Common.{◌<◌, length, rules}
use Rattle.base.proofs.Indexes.{taken_there, taken_wide}
use Rattle.base.proofs.index.take_away.Goals as goal

pub subtract-requires : goal.subtract-requires
subtract-requires c =
    let reach : c.args.rows.now.column < length c.args.row.now = search rules in
    taken_there c.args.rows.now c.args.row.now c.requires.0 reach c.requires.1

pub returns-clause-taken : goal.returns-clause-taken
returns-clause-taken c others h =
    let reach : c.args.rows.now.column < length c.args.row.now = search rules in
    taken_wide c.args.rows.now c.subtract.new.self c.args.row.now others reach c.subtract.ensures h

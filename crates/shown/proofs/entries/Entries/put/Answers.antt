use Rattle.std.proofs.Common.{◌∙◌, ap}
use Rattle.shown.specs.Snapshots.{rows_in}
use Rattle.shown.proofs.Mapped.{put_in}
use Rattle.shown.proofs.entries.Entries.put.Goals as goal

pub returns-clause-put : goal.returns-clause-put
returns-clause-put c = rw (← c.self.view_is) (ap rows_in c.in_ok-put.ensures.entries ∙ put_in c.self.inside.map c.args.key c.args.rows c.len.ensures.unique)

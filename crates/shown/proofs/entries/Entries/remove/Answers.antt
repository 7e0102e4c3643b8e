use Rattle.std.proofs.Common.{◌∙◌, ap}
use Rattle.shown.specs.Snapshots.{rows_in}
use Rattle.shown.proofs.Mapped.{removed_in}
use Rattle.shown.proofs.entries.Entries.remove.Goals as goal

pub returns : goal.returns
returns c = rw (← c.self.view_is) (ap rows_in c.pop-gone.ensures.entries ∙ removed_in c.args.key.now c.self.inside.map c.len.ensures.unique)

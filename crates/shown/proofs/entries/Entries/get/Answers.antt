use Rattle.std.proofs.Common.{◌∙◌}
use Rattle.shown.proofs.Mapped.{found_in}
use Rattle.shown.proofs.entries.Entries.get.Goals as goal

pub returns : goal.returns
returns c = rw (← c.self.view_is) (c.peek.ensures ∙ found_in c.args.key.now c.self.inside.map)

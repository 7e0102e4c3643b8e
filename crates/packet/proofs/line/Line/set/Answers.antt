use Rattle.std.proofs.Common.{slice_set, ap, ◌∙◌}
use Rattle.packet.proofs.Splits.{map_set}
use Rattle.packet.proofs.line.Line.set.Goals as goal

pub returns : goal.returns
returns g c = map_set g.F.Fronts.log c.self.inside.fronts.items c.args.source c.args.front ∙ ap (λ l. slice_set l c.args.source (g.F.Fronts.log c.args.front)) c.self.view_is

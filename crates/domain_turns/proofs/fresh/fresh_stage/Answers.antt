use Rattle.std.proofs.Common.{◌≡◌, [], sym, subst}
use Rattle.row.specs.Bags.{Each}
use Rattle.model.specs.Fronts.{LogView}
use Rattle.packet.specs.Lines.{AreOf}
use Rattle.packet.proofs.Copies.{line_empty, line_of}
use Rattle.domain_turns.proofs.fresh.fresh_stage.Goals as goal

pub new-requires-clause-of : goal.new-requires-clause-of
new-requires-clause-of g c =
    let p = g.J.Naming.plan in
    subst (λ q. AreOf q c.in_ok-line.line) (sym c.plan.ensures) (subst (AreOf p) (sym c.in_ok-line.ensures) (line_of p))

pub new-requires-clause-empty : goal.new-requires-clause-empty
new-requires-clause-empty g c = subst (Each (λ (l : LogView). l.entries ≡ [])) (sym c.in_ok-line.ensures) (line_empty g.J.Naming.plan)

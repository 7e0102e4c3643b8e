use Rattle.std.proofs.Common.{◌≡◌, false, length, ap, sym, ◌∙◌, subst, arith}
use Rattle.std.proofs.lemmas.Bool.{eqb-true}
use Rattle.links.specs.Queued.{holds_any}
use Rattle.links.specs.Turns.{TurnsView}
use Rattle.links.proofs.Waiting.{all_from}
use Rattle.links.proofs.turns.Turns.pop.Goals as goal

pub returns-clause-none : goal.returns-clause-none
returns-clause-none g c =
    let same = ap (λ (v : TurnsView g.row.T.Denot). length v.waiting) c.self.view_is in
    all_from c.args.self.now.waiting c.args.self.now.edge c.loop-edge.edge c.loop-edge.invariant.empty (omega (arith, same, c.loop-edge-test.false, c.loop-edge.auto.edge-end, c.edges-edge-end.ensures))

pub invariant_of-self-2 : goal.invariant_of-self-2
invariant_of-self-2 g c first =
    let same = ap (λ (v : TurnsView g.row.T.Denot). length v.waiting) c.self.view_is in
    let now = c.self-2.view_is ∙ c.loop-edge.invariant.same in
    subst (λ q. holds_any q ≡ false) (sym (ap (λ (v : TurnsView g.row.T.Denot). v.waiting) now))
    (all_from c.args.self.now.waiting c.args.self.now.edge c.loop-edge.edge c.loop-edge.invariant.empty (omega (arith, same, c.loop-edge-test.false, c.loop-edge.auto.edge-end, c.edges-edge-end.ensures))
    (sym (ap (λ (v : TurnsView g.row.T.Denot). v.edge) now) ∙ eqb-true c.self-2.inside.edge 0 first))

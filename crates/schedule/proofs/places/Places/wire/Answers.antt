use Rattle.std.proofs.Common.{ap, ◌∙◌, position, sym}
use Rattle.plan.specs.Domains.{edges}
use Rattle.protocol.specs.Edges.{is_edge, wire_at, wire_of}
use Rattle.schedule.proofs.places.Places.wire.Goals as goal

pub returns-in-Some : goal.returns-in-Some
returns-in-Some c =
    let p = c.args.self.now in
    c.wire_at.ensures
    ∙ ap (wire_at p) (c.edge_place.ensures ∙ ap (position (is_edge c.in-Some.edge)) (c.deref.ensures.value ∙ c.self.invariant.edges ∙ ap edges c.self.view_is))
    ∙ ap (wire_of p) (sym c.in-Some.is)

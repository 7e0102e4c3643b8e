use Rattle.std.proofs.Common.{◌≡◌, ◌∙◌, ap, inl, inr}
use Rattle.base_domain.specs.Domains.{Domain}
use Rattle.base_domain.proofs.Writes.{decided_as, refused_done}
use Rattle.base_domain.proofs.base_domain.BaseDomain.refuse.Goals as goal

pub answer-requires : goal.answer-requires
answer-requires g c =
    let f = g.F.Fronts.front c.self.inside.right in
    let why = rw (← c.self.view_is) at c.requires.why in
    let place = rw (← c.self.view_is) at c.requires.place in
    let rises = rw (← c.self.view_is) at c.requires.rises in
    let all = rw (c.in-Ok-Here.field-0-is) at c.in-Ok-Here.ensures.all in
    inr (inr (c.look.new.self, decided_as g.F.Fronts.log g.F.Fronts.authors g.F.Fronts.is_all c.args.write c.args.refused c.self.inside.next.items f c.look.new.self (c.in-Ok-Here.ensures.log.0 ∙ c.in-Ok.ensures.same.0) (c.in-Ok-Here.ensures.log.1 ∙ c.in-Ok.ensures.same.1) all why c.self.invariant.numbers place rises c.self.invariant.below))

pub returns-in-Ok-Here-clause-done : goal.returns-in-Ok-Here-clause-done
returns-in-Ok-Here-clause-done g c =
    let front = g.F.Fronts.front c.self.inside.right in
    let is : g.F.Fronts.front c.self.inside.right ≡ c.args.self.now.front = ap (λ (d : Domain g.row.F.Denot). d.front) c.self.view_is in
    inl (refused_done g.F.Fronts.log g.F.Fronts.authors c.args.write c.args.refused c.args.self.now c.look.new.self c.args.out.now c.answer.new.out c.answer.ensures c.requires.ready.clear.packets c.requires.ready.edges
    (c.in-Ok-Here.ensures.log.0 ∙ c.in-Ok.ensures.same.0 ∙ ap g.F.Fronts.log is) (c.in-Ok-Here.ensures.log.1 ∙ c.in-Ok.ensures.same.1 ∙ ap g.F.Fronts.authors is) c.requires.ready.running)

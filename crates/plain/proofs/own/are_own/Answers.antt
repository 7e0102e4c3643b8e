use Rattle.std.proofs.Common.{Bool, subst, get_or}
use Rattle.model.specs.Legal.{IsOwn}
use Rattle.model.specs.declared.place.Place.{Place}
use Rattle.model.specs.Items.{history_of}
use Rattle.model.specs.Tables.{place_of}
use Rattle.plain.specs.Tells.{Tells}
use Rattle.model.proofs.Lists.{mapped_at}
use Rattle.plain.proofs.own.are_own.Goals as goal

pub returns-then-not-branch : goal.returns-then-not-branch
returns-then-not-branch c = λ each.
    let origin : Place = record { base = 0; index = 0 } in
    let i = c.loop-place.place-index in
    let own = IsOwn c.args.plan.now (history_of c.args.items.now) c.args.session in
    let none = subst (λ (b : Bool). Tells b (own (place_of (get_or c.args.own.now i origin)))) c.if-not-branch.true c.in_ok-is_own.ensures in
    none (mapped_at place_of own c.args.own.now i origin c.loop-place-test.true each)

use Rattle.std.proofs.Common.{ap, ◌∙◌}
use Rattle.model.specs.Histories.{Author}
use Rattle.model.specs.Items.{history_of}
use Rattle.model.specs.Tables.{place_of}
use Rattle.plain.proofs.Owns.{own_tells, not_own}
use Rattle.plain.proofs.own.is_own.Goals as goal

pub returns-in-Some : goal.returns-in-Some
returns-in-Some c =
    let found = c.in-Some.ensures.lookup in
    own_tells c.args.plan.now (history_of c.args.items.now) c.args.session (place_of c.args.place) c.deref.result.now c.in-Some.author.now c.author.inside.session
    c.if-not-is_source.ensures (c.deref.ensures.value ∙ c.in_ok-authors.ensures) found.3.0 found.1 (ap (λ (a : Author). a.session) c.author.view_is)

pub returns : goal.returns
returns c =
    let found = c.in-None.ensures.lookup in
    not_own c.args.plan.now (history_of c.args.items.now) c.args.session (place_of c.args.place) c.deref.result.now (c.deref.ensures.value ∙ c.in_ok-authors.ensures) found.3

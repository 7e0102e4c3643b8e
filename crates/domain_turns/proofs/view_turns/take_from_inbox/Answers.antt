use Rattle.std.proofs.Common.{ap, sym, ◌∙◌, subst}
use Rattle.protocol.specs.Views.{View}
use Rattle.view_domain.specs.Codes.{message_of}
use Rattle.view_domain.specs.Domains.{view_of}
use Rattle.domain_turns.specs.ViewTurns.{Shows}
use Rattle.domain_turns.proofs.Shows.{shows_after, shows_truth, sound, step_stays, told_later, told_of}
use Rattle.domain_turns.proofs.view_turns.take_from_inbox.Goals as goal

pub show-requires-clause-truth : goal.show-requires-clause-truth
show-requires-clause-truth g c =
    let done = c.in_ok-receive.ensures.done in
    let same = step_stays (view_of c.args.domain.now) (message_of c.args.message) in
    let told = told_of c.args.domain.now c.receive.new.self _ _ c.in-Some.change c.take_shown.ensures.shown c.in-Some.is done.shown in
    let shows = shows_after c.args.domain.now c.receive.new.self _ c.in-Some.change c.requires.shows told (ap (λ (v : View). v.view) done.view ∙ same.1) (ap (λ (v : View). v.shard) done.view ∙ same.2) in
    shows_truth g.J.Naming.plan c.receive.new.self _ (ap (λ (v : View). v.plan) done.view ∙ (same.0 ∙ c.requires.plan.1)) shows (c.is_true.ensures (sound c.receive.new.self.mode done.running))

pub show-requires-clause-later : goal.show-requires-clause-later
show-requires-clause-later g c = told_later c.args.domain.now c.receive.new.self _ c.in-Some.change c.requires.shows
    (told_of c.args.domain.now c.receive.new.self _ _ c.in-Some.change c.take_shown.ensures.shown c.in-Some.is c.in_ok-receive.ensures.done.shown)

pub returns-clause-shows : goal.returns-clause-shows
returns-clause-shows g c =
    let done = c.in_ok-receive.ensures.done in
    let same = step_stays (view_of c.args.domain.now) (message_of c.args.message) in
    let told = told_of c.args.domain.now c.receive.new.self _ _ c.in-Some.change c.take_shown.ensures.shown c.in-Some.is done.shown in
    let shows = shows_after c.args.domain.now c.receive.new.self _ c.in-Some.change c.requires.shows told (ap (λ (v : View). v.view) done.view ∙ same.1) (ap (λ (v : View). v.shard) done.view ∙ same.2) in
    subst (Shows c.receive.new.self) (sym c.in-Ok.ensures.shown) shows

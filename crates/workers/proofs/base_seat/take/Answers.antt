use Rattle.std.proofs.Common.{ap, sym, subst, ◌∙◌}
use Rattle.book.specs.Fronts.{FrontView}
use Rattle.base_domain.specs.Domains.{Domain}
use Rattle.domain_turns.specs.BaseTurns.{Went, with_reply}
use Rattle.domain_turns.proofs.Replies.{went}
use Rattle.workers.proofs.base_seat.take.Goals as goal

pub returns-else-was_running-clause-went : goal.returns-else-was_running-clause-went
returns-else-was_running-clause-went g c = λ runs.
    let t = c.take_base-reply in
    let same = c.pass_on.ensures.goes_on runs in
    let ran = ap (λ (d : Domain FrontView). d.stopped) (sym same) ∙ runs in
    subst (Went g.J.Naming.plan c.args.mail c.args.domain.now) (sym same)
    (went g.J.Naming.plan c.args.mail c.args.worker.now.place c.args.domain.now t.new.domain (with_reply t.result.reply t.new.out) t.result.taken c.requires.base t.ensures.done t.ensures.stopped
    (λ not. ap (λ (d : Domain FrontView). d.stopped) (t.ensures.other not).1) ran)

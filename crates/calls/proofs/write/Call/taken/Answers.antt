use Rattle.std.proofs.Common.{sym, ◌∙◌}
use Rattle.model.specs.Entries.{change_of}
use Rattle.calls.proofs.Answered.{accepted_at, after_earlier}
use Rattle.calls.proofs.write.Call.taken.Goals as goal

pub returns-clause-taken : goal.returns-clause-taken
returns-clause-taken g c =
    let shown = sym c.into_parts-shown.ensures.front ∙ c.in-Some.is in
    let at = accepted_at g.J.Naming.plan c.args.answer c.in-Some.shown c.args.self.session c.args.self.number (change_of c.args.entry.now) c.requires.own c.requires.accepted shown c.into_parts-shown.ensures.answer in
    let told = rw (c.again-front.ensures, c.index-index.ensures) at c.if-not-settle.ensures.told in
    let after = told c.args.self.session c.args.self.number (change_of c.args.entry.now) at in
    let same = sym c.base.ensures.base ∙ c.if-base-self.false in
    let here = rw same at after in
    rw (c.part.ensures.part) (after_earlier c.args.seen.now c.args.front.now.seen _ _ _ c.settle.new.self.seen c.requires.seen here)

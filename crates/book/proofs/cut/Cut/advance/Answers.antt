use Rattle.book.proofs.Steps.{seen_more}
use Rattle.book.proofs.Advances.{cut_within, cut_fronts}
use Rattle.book.proofs.cut.Cut.advance.Goals as goal

pub invariant_of-self : goal.invariant_of-self
invariant_of-self g c =
    let l = c.learn.ensures in
    (l.book, l.of, rw c.set.ensures (cut_within g.J.Naming.plan c.self.inside.seen.log c.front.inside.seen.log c.learn.new.seen.log c.self.inside.lengths c.args.stage c.args.source c.front.inside.base c.front.inside.len c.self.invariant.2 c.front.invariant.2 c.requires.stage c.requires.source (let b = c.requires.base in rw (← c.front.view_is) at b) l.grown l.others))

pub returns-clause-fronts : goal.returns-clause-fronts
returns-clause-fronts g c =
    let l = c.learn.ensures in
    rw (c.set.ensures, ← c.self.view_is, ← c.front.view_is) (cut_fronts g.J.Naming.plan c.self.inside.seen.log c.front.inside.seen.log c.learn.new.seen.log c.self.inside.lengths c.args.stage c.args.source c.front.inside.base c.front.inside.len c.self.invariant.2 c.front.invariant.2 c.requires.source (let b = c.requires.base in rw (← c.front.view_is) at b) l.grown l.others)

pub returns-clause-seen : goal.returns-clause-seen
returns-clause-seen g c = rw (← c.self.view_is) (seen_more c.self.inside.seen.log c.learn.new.seen.log c.learn.ensures.grown)

pub returns-clause-others : goal.returns-clause-others
returns-clause-others g c = rw (← c.front.view_is) (seen_more c.front.inside.seen.log c.learn.new.seen.log c.learn.ensures.others)

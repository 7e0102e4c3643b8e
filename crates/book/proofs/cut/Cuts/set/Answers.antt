use Rattle.std.proofs.Common.{arith}
use Rattle.book.specs.Pages.{history_of}
use Rattle.book.proofs.Sessions.{cuts_set}
use Rattle.book.proofs.Steps.{seen_more}
use Rattle.book.proofs.cut.Cuts.set.Goals as goal

pub set-requires-clause-view : goal.set-requires-clause-view
set-requires-clause-view g c = omega (arith, c.self.invariant.2.table.views, c.requires.view)

pub set-requires-clause-shard : goal.set-requires-clause-shard
set-requires-clause-shard g c = omega (arith, c.self.invariant.2.table.shards c.args.view c.requires.view, c.requires.shard)

pub invariant_of-self : goal.invariant_of-self
invariant_of-self g c =
    let l = c.learn.ensures in
    let grown = seen_more c.self.inside.seen.log c.learn.new.seen.log l.grown in
    let others = seen_more c.cut.inside.seen.log c.learn.new.seen.log l.others in
    (l.book, l.of, rw c.set.ensures (cuts_set g.J.Naming.plan (history_of c.self.inside.seen.log) (history_of c.cut.inside.seen.log) (history_of c.learn.new.seen.log) c.self.inside.floors c.args.view c.args.shard c.cut.inside.lengths c.self.invariant.2 c.cut.invariant.2 c.requires.view c.requires.shard grown others))

pub returns-clause-seen : goal.returns-clause-seen
returns-clause-seen g c = rw (← c.self.view_is) (seen_more c.self.inside.seen.log c.learn.new.seen.log c.learn.ensures.grown)

pub returns-clause-others : goal.returns-clause-others
returns-clause-others g c = rw (← c.cut.view_is) (seen_more c.cut.inside.seen.log c.learn.new.seen.log c.learn.ensures.others)

use Rattle.sessions.proofs.Counts.{asked_there, unasked_there}
use Rattle.sessions.proofs.Found.{got_at, look_are, look_later}
use Rattle.sessions.proofs.Later.{all_self}
use Rattle.sessions.proofs.sights.Sights.asked_at.Goals as goal

pub invariant_of-self : goal.invariant_of-self
invariant_of-self g c =
    let small = rw (← c.self.view_is) at c.requires in
    let at = got_at c.self.inside.readers.items c.args.place c.index_mut.result.now small c.index_mut.ensures.value in
    look_are g.J.Naming.plan c.self.inside.readers.items c.args.place 0 0 c.index_mut.result.now c.asked.new.self c.self.invariant at c.asked.ensures.later

pub returns-then-own-clause-later : goal.returns-then-own-clause-later
returns-then-own-clause-later g c =
    let small = rw (← c.self.view_is) at c.requires in
    let at = got_at c.self.inside.readers.items c.args.place c.index_mut.result.now small c.index_mut.ensures.value in
    rw (← c.self.view_is) (look_later g.J.Naming.plan c.self.inside.readers.items c.args.place 0 0 c.index_mut.result.now c.asked.new.self at c.asked.ensures.later)

pub returns-then-own-clause-asked : goal.returns-then-own-clause-asked
returns-then-own-clause-asked g c =
    let small = rw (← c.self.view_is) at c.requires in
    let at = got_at c.self.inside.readers.items c.args.place c.index_mut.result.now small c.index_mut.ensures.value in
    rw (← c.self.view_is) (asked_there c.self.inside.readers.items c.args.place c.index_mut.result.now c.asked.new.self c.args.own at c.asked.ensures.later c.if-own.true c.asked.result c.asked.ensures.asked)

pub returns-else-own-clause-later : goal.returns-else-own-clause-later
returns-else-own-clause-later g c = all_self _

pub returns-else-own-clause-asked : goal.returns-else-own-clause-asked
returns-else-own-clause-asked g c = unasked_there c.args.self.now c.args.place c.args.own c.requires c.if-own.false

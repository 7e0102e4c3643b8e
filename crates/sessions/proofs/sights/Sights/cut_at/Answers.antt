use Rattle.sessions.proofs.Found.{cut_there, got_at, look_are, look_later}
use Rattle.sessions.proofs.sights.Sights.cut_at.Goals as goal

pub invariant_of-self : goal.invariant_of-self
invariant_of-self g c =
    let small = rw (← c.self.view_is) at c.requires in
    let at = got_at c.self.inside.readers.items c.args.place c.index_mut.result.now small c.index_mut.ensures.value in
    look_are g.J.Naming.plan c.self.inside.readers.items c.args.place 0 0 c.index_mut.result.now c.cut.new.self c.self.invariant at c.cut.ensures.later

pub returns-clause-later : goal.returns-clause-later
returns-clause-later g c =
    let small = rw (← c.self.view_is) at c.requires in
    let at = got_at c.self.inside.readers.items c.args.place c.index_mut.result.now small c.index_mut.ensures.value in
    rw (← c.self.view_is) (look_later g.J.Naming.plan c.self.inside.readers.items c.args.place 0 0 c.index_mut.result.now c.cut.new.self at c.cut.ensures.later)

pub returns-clause-cut : goal.returns-clause-cut
returns-clause-cut g c =
    let small = rw (← c.self.view_is) at c.requires in
    let at = got_at c.self.inside.readers.items c.args.place c.index_mut.result.now small c.index_mut.ensures.value in
    rw (← c.self.view_is) (cut_there g.J.Naming.plan c.self.inside.readers.items c.args.place c.index_mut.result.now c.cut.new.self at c.cut.ensures.later c.cut.result c.cut.ensures.cut)

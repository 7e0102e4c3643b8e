use Rattle.std.proofs.Common.{◌+◌, ap, ◌∙◌, arith, inl, inr, refl}
use Rattle.model.specs.Tables.{places_of}
use Rattle.model.proofs.Prefixes.{prefix_self, prefix_trans}
use Rattle.book.specs.Sessions.{SessionView}
use Rattle.sessions.proofs.Floored.{floors_rise, own_written, own_past, caller_fenced, looks_fenced, added_grows, fenced}
use Rattle.sessions.proofs.Later.{all_self}
use Rattle.sessions.proofs.Words.{stolen_kept, stolen_undone}
use Rattle.sessions.proofs.session.Session.end_fence.Goals as goal

pub returns-in_default-clause-refused : goal.returns-in_default-clause-refused
returns-in_default-clause-refused g c = rw (← c.self.view_is) (record { after = refl; looked = all_self _; grown = prefix_self _; number = inr refl; why = inl (inl refl, refl, refl) })

pub fence-fenced-requires-clause-floors : goal.fence-fenced-requires-clause-floors
fence-fenced-requires-clause-floors g c =
    let cuts = rw (← c.self.view_is) at c.requires.cuts in
    rw (ap (λ (x : SessionView). x.floors) c.learn.ensures.stays) (floors_rise g.J.Naming.plan _ c.args.looked.now c.args.cuts c.self.invariant.2 cuts)

pub fence-fenced-requires-clause-past : goal.fence-fenced-requires-clause-past
fence-fenced-requires-clause-past g c =
    let cuts = rw (← c.self.view_is) at c.requires.cuts in
    let all = rw (← c.self.view_is) at c.requires.all in
    let own = c.in-Ok.ensures in
    rw own (own_past g.J.Naming.plan _ c.args.looked.now c.args.cuts c.self.invariant.2 cuts c.requires.bases all c.self.invariant.0)

pub fence-fenced-requires-clause-own : goal.fence-fenced-requires-clause-own
fence-fenced-requires-clause-own g c =
    let own = c.in-Ok.ensures in
    rw (own, (ap (λ (x : SessionView). x.session) c.learn.ensures.stays)) (own_written g.J.Naming.plan _ c.learn.new.self.seen c.self.invariant.0 c.learn.ensures.others)

pub invariant_of-self-in-Ok-fenced : goal.invariant_of-self-in-Ok-fenced
invariant_of-self-in-Ok-fenced g c =
    let p = g.J.Naming.plan in
    let cuts = rw (← c.self.view_is) at c.requires.cuts in
    let told = c.in-Ok-fenced.ensures.fenced in
    let h = c.fence-fenced.new.self.seen in
    let grown = prefix_trans c.self.inside.seen c.learn.new.self.seen h c.learn.ensures.others (added_grows p _ c.learn.new.self.seen _ h told.item) in
    let session = (ap (λ (x : SessionView). x.session) told.stays) ∙ (ap (λ (x : SessionView). x.session) c.learn.ensures.stays) in
    let are = ap (λ (x : SessionView). x.floors) told.stays in
    rw (c.part.ensures.part, session) (caller_fenced p _ c.args.looked.now c.args.cuts c.self.invariant.2 cuts (c.self.inside.number + 1) h c.fence-fenced.new.self.floors c.self.invariant.0 grown are c.fence-fenced.ensures.others, omega (arith, (ap (λ (x : SessionView). x.answered) told.stays), (ap (λ (x : SessionView). x.answered) c.learn.ensures.stays), c.self.invariant.1), looks_fenced p _ c.args.looked.now c.args.cuts c.self.invariant.2 cuts (c.self.inside.number + 1) h c.fence-fenced.new.self.floors are, c.self.invariant.3)

pub returns-in-Ok-fenced-clause-fenced : goal.returns-in-Ok-fenced-clause-fenced
returns-in-Ok-fenced-clause-fenced g c =
    let p = g.J.Naming.plan in
    let told = c.in-Ok-fenced.ensures.fenced in
    let cuts = rw (← c.self.view_is) at c.requires.cuts in
    let all = rw (← c.self.view_is) at c.requires.all in
    let h = c.fence-fenced.new.self.seen in
    let session = (ap (λ (x : SessionView). x.session) told.stays) ∙ (ap (λ (x : SessionView). x.session) c.learn.ensures.stays) in
    let are = ap (λ (x : SessionView). x.floors) told.stays in
    let added = rw ((ap (λ (x : SessionView). x.session) c.learn.ensures.stays), ← (ap (λ (x : SessionView). x.floors) told.stays)) at told.item in
    let answered = (ap (λ (x : SessionView). x.answered) told.stays) ∙ ap (λ n. n + 1) (ap (λ (x : SessionView). x.answered) c.learn.ensures.stays) in
    let once = rw ((ap (λ (x : SessionView). x.session) c.learn.ensures.stays), (ap (λ (x : SessionView). x.answered) c.learn.ensures.stays)) at told.counted in
    rw (← c.self.view_is, c.part.ensures.part, session, answered) (fenced p _ c.args.looked.now c.args.cuts c.self.invariant.2 cuts c.learn.new.self.seen h c.fence-fenced.new.self.floors (places_of c.in-Ok.own.items) c.learn.ensures.others once c.in-Ok.ensures are c.requires.bases all added)

pub invariant_of-self-in-Err : goal.invariant_of-self-in-Err
invariant_of-self-in-Err g c = stolen_kept g.J.Naming.plan c.self.inside.number c.self.inside.stolen c.self.inside.seen c.self.inside.accepted.items c.self.inside.sights c.self.inside.word c.learn.new.self c.fence-fenced.new.self c.learn.ensures.stays c.learn.ensures.others c.in-Err.ensures.stolen g.J.Naming.sessions _ c.part.ensures.part c.self.invariant.0 c.self.invariant.1 c.self.invariant.2 c.self.invariant.3

pub returns-clause-refused : goal.returns-clause-refused
returns-clause-refused g c = rw (← c.self.view_is) (stolen_undone g.J.Naming.plan c.self.inside.number c.self.inside.stolen c.self.inside.seen c.self.inside.accepted.items c.self.inside.sights c.self.inside.word c.learn.new.self c.fence-fenced.new.self c.learn.ensures.stays c.learn.ensures.others c.in-Err.ensures.stolen _ c.part.ensures.part)

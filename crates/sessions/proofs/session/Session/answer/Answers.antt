use Rattle.std.proofs.Common.{rules, IfErr, ◌≡◌, ◌+◌, ap, sym, ◌∙◌, arith}
use Rattle.row.specs.Cells.{datum_of}
use Rattle.row.specs.declared.refused.Refused.TheVariants.{NoMemory}
use Rattle.model.proofs.Prefixes.{prefix_trans}
use Rattle.model.specs.Histories.{view_shard}
use Rattle.model.specs.Queries.{answer}
use Rattle.book.specs.Sessions.{SessionView}
use Rattle.sessions.specs.Reads.{Shows}
use Rattle.sessions.proofs.Floored.{added_grows}
use Rattle.sessions.proofs.Found.{err_to, unread}
use Rattle.sessions.proofs.Looks.{caller_read, floor_below, looks_read, read_done}
use Rattle.sessions.proofs.Words.{has_read, stolen_kept, stolen_undone}
use Rattle.sessions.proofs.session.Session.answer.Goals as goal

pub answer-answered-requires-clause-floor : goal.answer-answered-requires-clause-floor
answer-answered-requires-clause-floor g c =
    let p = g.J.Naming.plan in
    let found = rw (← c.self.view_is) at c.requires.found in
    rw (ap (λ (x : SessionView). x.floors) c.learn.ensures.stays, c.requires.shard, found.cut) (floor_below p _ c.args.view (view_shard p c.args.view (datum_of c.args.key.now)) found.sight c.self.invariant.2 found.is)

pub answer-answered-requires-clause-room : goal.answer-answered-requires-clause-room
answer-answered-requires-clause-room g c = rw (ap (λ (x : SessionView). x.floors) c.learn.ensures.stays, ← c.lengths.ensures.lengths) c.in_ok-room.ensures.room

pub returns-in_err-room-clause-refused : goal.returns-in_err-room-clause-refused
returns-in_err-room-clause-refused g c =
    let only : IfErr c.from_residual.result (λ e. e ≡ NoMemory) = search rules in
    err_to (λ e. e ≡ NoMemory) _ c.from_residual.result (λ e h. unread _ e h) only

pub answer-answered-requires-clause-rows : goal.answer-answered-requires-clause-rows
answer-answered-requires-clause-rows g c =
    let p = g.J.Naming.plan in
    let found = rw (← c.self.view_is) at c.requires.found in
    found.answers ∙ ap (λ fs. answer p fs c.args.view (datum_of c.args.key.now)) (sym found.fronts)

pub invariant_of-self : goal.invariant_of-self
invariant_of-self g c =
    let p = g.J.Naming.plan in
    let k = datum_of c.args.key.now in
    let found = rw (← c.self.view_is) at c.requires.found in
    let r = has_read p c.self.inside.word c.learn.new.self c.answer-answered.new.self c.args.view c.args.shard k c.args.rows.now c.args.cut.now.lengths c.learn.ensures.stays c.requires.shard c.in-Ok.ensures.answered in
    let h = c.answer-answered.new.self.seen in
    let grown = prefix_trans c.self.inside.seen c.learn.new.self.seen h c.learn.ensures.others (added_grows p _ c.learn.new.self.seen _ h r.item) in
    rw (c.part.ensures.part, r.session) (caller_read p _ (c.self.inside.number + 1) c.args.cut.now.seen h c.args.cut.now.lengths c.answer-answered.new.self.floors _ c.args.view (view_shard p c.args.view k) c.self.invariant.0 grown c.lengths.ensures.within c.answer-answered.ensures.others r.floors, omega (arith, r.answered, c.self.invariant.1), looks_read p _ (c.self.inside.number + 1) h c.args.cut.now.lengths c.answer-answered.new.self.floors c.args.view (view_shard p c.args.view k) found.sight c.self.invariant.2 found.is found.cut r.floors, c.self.invariant.3)

pub invariant_of-self-in-Err : goal.invariant_of-self-in-Err
invariant_of-self-in-Err g c = stolen_kept g.J.Naming.plan c.self.inside.number c.self.inside.stolen c.self.inside.seen c.self.inside.accepted.items c.self.inside.sights c.self.inside.word c.learn.new.self c.answer-answered.new.self c.learn.ensures.stays c.learn.ensures.others c.in-Err.ensures.stolen g.J.Naming.sessions _ c.part.ensures.part c.self.invariant.0 c.self.invariant.1 c.self.invariant.2 c.self.invariant.3

pub returns-in-Ok-clause-read : goal.returns-in-Ok-clause-read
returns-in-Ok-clause-read g c =
    let p = g.J.Naming.plan in
    let k = datum_of c.args.key.now in
    let found = rw (← c.self.view_is) at c.requires.found in
    let r = has_read p c.self.inside.word c.learn.new.self c.answer-answered.new.self c.args.view c.args.shard k c.args.rows.now c.args.cut.now.lengths c.learn.ensures.stays c.requires.shard c.in-Ok.ensures.answered in
    let shows : Shows p _ c.args.view k c.args.rows.now c.args.cut.now.lengths = record { sight = found.sight; is = found.is; rows = found.rows; answers = found.answers; cut = found.cut } in
    rw (← c.self.view_is, c.part.ensures.part, r.session, r.answered) (read_done p _ c.args.view k c.args.rows.now c.args.cut.now.lengths c.learn.new.self.seen c.answer-answered.new.self.seen c.answer-answered.new.self.floors c.self.invariant.2 c.learn.ensures.others r.once r.item shows r.floors)

pub returns-in-Err-clause-refused : goal.returns-in-Err-clause-refused
returns-in-Err-clause-refused g c = rw (← c.self.view_is) (stolen_undone g.J.Naming.plan c.self.inside.number c.self.inside.stolen c.self.inside.seen c.self.inside.accepted.items c.self.inside.sights c.self.inside.word c.learn.new.self c.answer-answered.new.self c.learn.ensures.stays c.learn.ensures.others c.in-Err.ensures.stolen _ c.part.ensures.part)

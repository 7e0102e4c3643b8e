use Rattle.std.proofs.Common.{◌≡◌, ◌<◌, ◌∙◌, true, Some, length, ap, sym, subst, arith}
use Rattle.plan.specs.Layouts.{table_at}
use Rattle.model.specs.Entries.{change_of}
use Rattle.model.specs.Logs.{fits}
use Rattle.schedule.specs.Sessions.{Session}
use Rattle.machine.specs.Machines.{held}
use Rattle.machine.proofs.Acks.{past_end}
use Rattle.machine.proofs.Meeting.{there_at}
use Rattle.world.proofs.Writing.{begun_placed, still_there, are_logged, write_refused, write_goes, write_unknown, fits_there, shard_there}
use Rattle.world.proofs.writes.write.Goals as goal

pub returns-then-session-len : goal.returns-then-session-len
returns-then-session-len g c =
    let h = held c.args.machine.now in
    record { done = write_unknown g.F.Fronts.log g.F.Fronts.authors h c.args.session c.args.table.now (change_of c.args.entry.now) c.requires.whole.placed (past_end (λ (x : Session). x.is) h.sessions c.args.session (omega (arith, c.if-session-len.true, c.len.ensures))) }

pub returns-in-Err : goal.returns-in-Err
returns-in-Err g c =
    let at = there_at c.args.machine.now.callers.items c.args.session _ (omega (arith, c.if-session-len.false, c.len.ensures)) ∙ ap Some (sym c.index_mut.ensures.value) in
    record {
      done = write_refused g.F.Fronts.log g.F.Fronts.authors (held c.args.machine.now) c.args.session c.index_mut.result.now c.take_number.new.self c.requires.whole.placed at c.in_ok-number.ensures.next c.args.table.now (change_of c.args.entry.now) c.plan.result.now c.plan.ensures c.in-Err.refused c.in-Err.ensures.why;
    }

pub write_at-requires : goal.write_at-requires
write_at-requires g c =
    let log = g.F.Fronts.log in
    let authors = g.F.Fronts.authors in
    let h = held c.args.machine.now in
    let lt : c.args.session < length h.sessions = omega (arith, c.if-session-len.false, c.len.ensures) in
    let at = there_at c.args.machine.now.callers.items c.args.session _ lt ∙ ap Some (sym c.index_mut.ensures.value) in
    let s = c.index_mut.result.now in
    let one = c.take_number.new.self in
    let b = c.base_for-base.result in
    record {
      placed = begun_placed log authors h c.args.session s one c.requires.whole.placed at c.in_ok-number.ensures.next;
      logged = are_logged log authors h c.requires.whole;
      session = still_there log authors h c.args.session s one c.requires.whole.placed at c.in_ok-number.ensures.next lt;
      number = c.in_ok-number.ensures.small;
      range = c.base_for-base.ensures.range;
      fits = fits_there h.plan c.in-Ok.table b (change_of c.args.entry.now) c.base_for-base.ensures.table (subst (λ p. fits (table_at p c.in-Ok.table) (change_of c.args.entry.now) ≡ true) c.plan.ensures c.in-Ok.ensures.fits);
      shard = shard_there h.plan c.in-Ok.table b (change_of c.args.entry.now) c.base_for-base.ensures.table c.base_for-base.ensures.shard;
    }

pub returns : goal.returns
returns g c =
    let at = there_at c.args.machine.now.callers.items c.args.session _ (omega (arith, c.if-session-len.false, c.len.ensures)) ∙ ap Some (sym c.index_mut.ensures.value) in
    record {
      done = write_goes g.F.Fronts.log g.F.Fronts.authors (held c.args.machine.now) c.args.session c.index_mut.result.now c.take_number.new.self c.requires.whole.placed at c.in_ok-number.ensures.next c.args.table.now (change_of c.args.entry.now) c.plan.result.now c.plan.ensures
          c.in-Ok.table c.base_for-base.result c.in_ok-number.number _ (held c.write_at.new.machine) c.in-Ok.ensures.table c.in-Ok.ensures.free c.base_for-base.ensures.base c.in_ok-number.ensures.number c.in_ok-reply.ensures.done;
    }

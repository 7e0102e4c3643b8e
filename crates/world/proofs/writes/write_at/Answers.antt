use Rattle.std.proofs.Common.{◌<◌, ◌∙◌, Some, length, refl, ap, sym, subst}
use Rattle.model.specs.Entries.{change_of}
use Rattle.model.specs.Places.{base_count}
use Rattle.base_domain.specs.Received.{verdict_of as verdict_in}
use Rattle.protocol.specs.Bases.{write as write_of}
use Rattle.schedule.specs.Codes.{reply_of}
use Rattle.machine.specs.Held.{base_node}
use Rattle.machine.specs.Machines.{held}
use Rattle.machine.specs.Turned.{IsBaseGiven}
use Rattle.world.proofs.Marked.{given_plan, given_sessions}
use Rattle.machine.proofs.Meeting.{seen_there, seen_up, there_at}
use Rattle.world.proofs.Writing.{given_small, has_written, is_for, not_written}
use Rattle.world.proofs.writes.write_at.Goals as goal

pub returns-then-not-base_runs : goal.returns-then-not-base_runs
returns-then-not-base_runs g c = record {
  done = not_written g.F.Fronts.log g.F.Fronts.authors (held c.args.machine.now) c.args.base c.args.session c.args.number (change_of c.args.entry.now) c.requires.placed c.requires.range
      (sym (seen_up (base_node g.F.Fronts.log g.F.Fronts.authors) c.deref.result.now c.args.machine.now.bases.items c.args.base _ c.if-not-base_runs.ensures.runs c.deref.ensures.value));
}

pub give_base-requires : goal.give_base-requires
give_base-requires g c = record {
  placed = c.requires.placed;
  up = seen_up (base_node g.F.Fronts.log g.F.Fronts.authors) c.deref.result.now c.args.machine.now.bases.items c.args.base _ c.if-not-base_runs.ensures.runs c.deref.ensures.value;
  there = seen_there c.deref.result.now c.args.machine.now.bases.items c.args.base (c.if-not-base_runs.ensures.there refl) c.deref.ensures.value;
  of = λ d at.
      is_for (g.F.Fronts.log d.front) c.args.machine.now.places c.args.base c.args.session c.args.number (change_of c.args.entry.now) (change_of c.in-Ok.entry) (c.requires.placed.bases.each c.args.base d at).plan (c.requires.placed.bases.each c.args.base d at).base
      (subst (λ n. c.args.session < n) c.requires.placed.sessions.size c.requires.session) c.requires.number c.requires.fits c.requires.shard c.in-Ok.ensures;
}

pub note-reply-requires-clause-range : goal.note-reply-requires-clause-range
note-reply-requires-clause-range g c =
    subst (λ p. c.args.base < base_count p)
    (sym (given_plan g.F.Fronts.log g.F.Fronts.authors (held c.args.machine.now) (held c.give_base.new.machine) c.args.base (write_of c.args.session c.args.number (change_of c.in-Ok.entry)) (verdict_in c.in_ok-answer.answer) c.in_ok-answer.ensures.given)) c.requires.range

pub note-reply-requires-clause-small : goal.note-reply-requires-clause-small
note-reply-requires-clause-small g c =
    given_small g.F.Fronts.log g.F.Fronts.authors (held c.args.machine.now) (held c.give_base.new.machine) c.args.base c.args.session c.args.number (change_of c.in-Ok.entry) (verdict_in c.in_ok-answer.answer) c.in_ok-answer.ensures.given

pub returns : goal.returns
returns g c =
    let log = g.F.Fronts.log in
    let authors = g.F.Fronts.authors in
    let h = held c.args.machine.now in
    let new = held c.give_base.new.machine in
    let v = verdict_in c.in_ok-answer.answer in
    let given = subst (λ e. IsBaseGiven log authors c.args.base (write_of c.args.session c.args.number e) v h new) c.in-Ok.ensures c.in_ok-answer.ensures.given in
    let known = subst (λ ss. c.args.session < length ss) (sym (given_sessions log authors h new c.args.base (write_of c.args.session c.args.number (change_of c.args.entry.now)) v given)) c.requires.session in
    let mine = there_at c.give_base.new.machine.callers.items c.args.session _ known ∙ ap Some (sym c.index_mut.ensures.value) in
    record {
      done = has_written log authors h new c.args.base c.args.session c.args.number (change_of c.args.entry.now) v c.index_mut.result.now c.note-reply.new.caller (reply_of c.note-reply.result) c.requires.placed c.requires.logged given mine c.note-reply.ensures.caller c.note-reply.ensures.reply;
    }

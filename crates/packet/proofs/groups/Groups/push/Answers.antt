use Rattle.std.proofs.Common.{sym, ap}
use Rattle.std.proofs.lemmas.Result.{on_ok_weaker}
use Rattle.packet.proofs.GroupSteps.{known_records, known_names, put_here, new_records, new_names}
use Rattle.packet.proofs.groups.Groups.push.Goals as goal

pub returns-in-Some-clause-records : goal.returns-in-Some-clause-records
returns-in-Some-clause-records c = rw (← c.self.view_is)
    (on_ok_weaker c.push.result (λ p. known_records c.self.inside.groups.entries _ c.args.key c.args.change c.in-Some.group.now c.push.new.self (sym c.in-Some.ensures.value) p (c.get_mut.follows.holds c.push.new.self).0) c.push.ensures)

pub returns-in-Some-clause-names : goal.returns-in-Some-clause-names
returns-in-Some-clause-names c = rw (← c.self.view_is)
    (on_ok_weaker c.push.result (λ p. known_names c.self.inside.groups.entries _ c.args.key c.args.change c.in-Some.group.now c.push.new.self (sym c.in-Some.ensures.value) (c.get_mut.follows.holds c.push.new.self).0) c.push.ensures)

pub returns-in_ok-insert-in-None-clause-records : goal.returns-in_ok-insert-in-None-clause-records
returns-in_ok-insert-in-None-clause-records c = rw (← c.self.view_is)
    (new_records c.self.inside.groups.entries c.insert.new.self.entries c.args.key c.args.change (sym c.in-None.ensures.value)
    (put_here c.self.inside.groups.entries c.insert.new.self.entries c.args.key c.args.change c.get_mut.follows.lender-at-none c.push-in-None.new.self (ap (λ m. m.entries) c.get_mut.follows.holds-at-none)
    (rw c.new-group.ensures at c.in_ok-push-in-None.ensures) c.in_ok-insert-in-None.ensures.updates.0))

pub returns-in_ok-insert-in-None-clause-names : goal.returns-in_ok-insert-in-None-clause-names
returns-in_ok-insert-in-None-clause-names c = rw (← c.self.view_is)
    (new_names c.self.inside.groups.entries c.insert.new.self.entries c.args.key c.args.change (sym c.in-None.ensures.value)
    (put_here c.self.inside.groups.entries c.insert.new.self.entries c.args.key c.args.change c.get_mut.follows.lender-at-none c.push-in-None.new.self (ap (λ m. m.entries) c.get_mut.follows.holds-at-none)
    (rw c.new-group.ensures at c.in_ok-push-in-None.ensures) c.in_ok-insert-in-None.ensures.updates.0))

use Rattle.std.proofs.Common.{sym, arith, refl}
use Rattle.model.specs.Histories.{write}
use Rattle.model.specs.Entries.{change_of}
use Rattle.book.proofs.Steps.{any_err}
use Rattle.book.proofs.Fronts.{appended, appended_front, moved, may_write, front_count}
use Rattle.book.proofs.front.Front.append.Goals as goal

pub try_add-requires-clause-ask : goal.try_add-requires-clause-ask
try_add-requires-clause-ask g c =
    let f = c.self.invariant.2 in
    let q = rw (sym c.self.view_is) at c.requires in
    record {
      item = write c.args.session c.args.number c.self.inside.base (change_of c.args.entry.now);
      asks = refl;
      word = refl;
      range = omega (arith, f.base);
      least = front_count g.J.Naming.plan c.self.inside.seen.log c.self.inside.base c.self.inside.len f;
      may = may_write g.J.Naming.plan c.self.inside.seen.log c.self.inside.base c.self.inside.len c.args.session c.args.number (change_of c.args.entry.now) f q;
    }

pub invariant_of-self-2 : goal.invariant_of-self-2
invariant_of-self-2 g c =
    let x = c.try_add.ensures in
    (x.book, x.of, appended_front _ c.self.inside.seen.log c.try_add.new.seen.log c.self.inside.base c.self.inside.len _ _ _ c.self.invariant.2 (c.in_ok-try_add.ensures.done _ refl))

pub returns-clause-appended : goal.returns-clause-appended
returns-clause-appended g c = rw (← c.self.view_is) (appended _ c.self.inside.seen.log c.try_add.new.seen.log c.self.inside.base c.self.inside.len _ _ _ c.self.invariant.2 (c.in_ok-try_add.ensures.done _ refl))

pub returns-in_err-try_add-clause-moved : goal.returns-in_err-try_add-clause-moved
returns-in_err-try_add-clause-moved g c = any_err c.from_residual.result (rw (← c.self.view_is) (moved g.J.Naming.plan c.self.inside.seen.log c.try_add.new.seen.log c.self.inside.base c.self.inside.len c.self.invariant.2 c.try_add.ensures.grown c.in_err-try_add.ensures.moved))

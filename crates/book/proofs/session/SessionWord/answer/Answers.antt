use Rattle.std.proofs.Common.{◌+◌, refl, subst, sym}
use Rattle.row.specs.Cells.{datum_of}
use Rattle.model.specs.Tables.{with_floor}
use Rattle.book.specs.Sessions.{SessionView, IsRead, IsSession}
use Rattle.book.proofs.Steps.{any_err}
use Rattle.book.proofs.Sessions.{answered, read_asked, read_told, session_at, session_later, stolen_before}
use Rattle.book.proofs.session.SessionWord.answer.Goals as goal

pub invariant_of-self : goal.invariant_of-self
invariant_of-self g c =
    let l = c.learn.ensures in
    (l.book, l.of, session_later g.J.Naming.plan g.J.Naming.sessions c.self.inside.seen.log c.learn.new.seen.log _ _ _ c.self.invariant.2 l.grown)

pub add-requires-clause-ask : goal.add-requires-clause-ask
add-requires-clause-ask g c =
    let p = g.J.Naming.plan in
    let n = g.J.Naming.sessions in
    let x = session_later p n c.self.inside.seen.log c.learn.new.seen.log _ _ _ c.self.invariant.2 c.learn.ensures.grown in
    let q = c.requires in
    let at = sym c.self.view_is in
    let is = sym c.cut.view_is in
    read_asked p n c.learn.new.seen.log c.cut.inside.seen.log _ _ _ c.args.view c.args.shard _ _ _ q.shard x c.learn.ensures.others q.view q.within c.cut.invariant.2 (rw (at, is) at q.floor) (rw is at q.rows)

pub returns-in_err-add-clause-stolen : goal.returns-in_err-add-clause-stolen
returns-in_err-add-clause-stolen g c = any_err c.from_residual.result (rw (← c.self.view_is) (stolen_before g.J.Naming.plan c.self.inside.seen.log c.learn.new.seen.log _ _ _ c.add.new.self c.learn.ensures.grown c.in_err-add.ensures.stolen))

pub invariant_of-self-2 : goal.invariant_of-self-2
invariant_of-self-2 g c =
    let p = g.J.Naming.plan in
    let n = g.J.Naming.sessions in
    let x = session_later p n c.self.inside.seen.log c.learn.new.seen.log _ _ _ c.self.invariant.2 c.learn.ensures.grown in
    let q = c.requires in
    let i = c.self-2.invariant in
    let stays = rw (sym c.self-2.view_is) at c.add.ensures.stays in
    let done = rw (sym c.self-2.view_is) at c.in_ok-add.ensures.done in
    let read = read_told p n c.learn.new.seen.log c.self-2.inside.seen.log _ _ _ c.args.view c.args.shard _ _ c.cut.inside.lengths q.shard x q.view q.within (done _ refl) in
    (i.0, i.1, rw c.copy.ensures (subst (λ (y : SessionView). IsSession p n (record y { answered = y.answered + 1; floors = with_floor y.floors c.args.view c.args.shard c.cut.inside.lengths })) (sym stays) read))

pub returns-clause-answered : goal.returns-clause-answered
returns-clause-answered g c =
    let p = g.J.Naming.plan in
    let n = g.J.Naming.sessions in
    let me = c.self.inside in
    let stays = rw (sym c.self-2.view_is) at c.add.ensures.stays in
    let done = rw (sym c.self-2.view_is) at c.in_ok-add.ensures.done in
    let after = with_floor me.floors c.args.view c.args.shard c.cut.inside.lengths in
    let all = answered p n me.seen.log c.learn.new.seen.log c.self-2.inside.seen.log me.number me.answered me.floors after _ c.self.invariant.2 c.learn.ensures.grown (done _ refl) in
    rw (c.copy.ensures, ← c.self.view_is, ← c.cut.view_is) (subst (λ (y : SessionView). IsRead p (session_at me.number me.answered me.floors me.seen.log) c.args.view c.args.shard (datum_of c.args.key.now) c.args.rows.now c.cut.inside.lengths (record y { answered = y.answered + 1; floors = with_floor y.floors c.args.view c.args.shard c.cut.inside.lengths })) (sym stays) all)

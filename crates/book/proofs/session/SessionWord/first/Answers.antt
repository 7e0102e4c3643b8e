use Rattle.book.proofs.Sessions.{zero_session}
use Rattle.book.proofs.session.SessionWord.first.Goals as goal

pub invariant_of-result : goal.invariant_of-result
invariant_of-result g c =
    let z = c.in_ok-floors.ensures in
    let t = z.table in
    rw c.again.ensures (c.requires.book, c.requires.log, zero_session g.J.Naming.plan g.J.Naming.sessions c.args.seen.now.log c.args.number _ c.requires.number (rw c.requires.plan at t) z.zeros)

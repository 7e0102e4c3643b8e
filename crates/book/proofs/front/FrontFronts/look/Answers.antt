use Rattle.std.proofs.Common.{◌≤◌, ◌<◌, ap, arith, length}
use Rattle.model.specs.Histories.{log_of}
use Rattle.book.specs.Fronts.{FrontView}
use Rattle.book.proofs.FrontLogs.{is_longer}
use Rattle.book.proofs.front.FrontFronts.look.Goals as goal

pub returns-else-found-len-clause-moved : goal.returns-else-found-len-clause-moved
returns-else-found-len-clause-moved g c =
    let l = c.look-found.ensures in
    let m = c.look-found.new.self in
    let u = c.catch_up.ensures in
    let there : m.len ≤ length (log_of m.base m.seen) = c.len.ensures.within in
    let more : m.len < length (log_of m.base m.seen) = omega (arith, there, l.found, c.len.ensures.len, c.if-found-len.false) in
    let again = c.again-front.ensures in
    let stays = rw again at u.stays in
    is_longer g.J.Naming.plan c.args.self.now m c.catch_up.new.self c.len-len.ensures.within (ap (λ (f : FrontView). f.base) l.stays) (ap (λ (f : FrontView). f.len) l.stays) l.seen more (ap (λ (f : FrontView). f.base) stays) (rw again at u.seen) u.whole

use Rattle.book.proofs.FrontLogs.{is_log}
use Rattle.book.proofs.front.FrontFronts.is_log.Goals as goal

pub returns : goal.returns
returns g c = is_log g.J.Naming.plan g.J.Naming.sessions c.args.self.now c.base-base.ensures.range c.len-len.ensures.legal c.len-len.ensures.within

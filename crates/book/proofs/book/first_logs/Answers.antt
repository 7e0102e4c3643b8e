use Rattle.std.proofs.Common.{sym}
use Rattle.book.proofs.Rights.{logs_more}
use Rattle.book.proofs.book.first_logs.Goals as goal

pub loop-base-preserved : goal.loop-base-preserved
loop-base-preserved g c =
    let items = c.in_ok-push.ensures.items in
    rw (items, c.loop-base.invariant, c.first.ensures) (sym (logs_more c.loop-base.base))

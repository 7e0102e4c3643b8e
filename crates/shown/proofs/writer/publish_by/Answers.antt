use Rattle.std.proofs.Common.{subst, sym}
use Rattle.shown.specs.Snapshots.{Snapshot, IsLater, IsTrue}
use Rattle.shown.proofs.Rises.{rises}
use Rattle.shown.proofs.writer.publish_by.Goals as goal

pub publish_as-requires : goal.publish_as-requires
publish_as-requires g c next is =
    let shown : Snapshot = c.args.writer.desk.shown.value in
    let up : IsLater shown next = subst (IsLater shown) (sym is) c.requires.later in
    rises g.J.Naming.plan _ _ shown next up (λ _. subst (IsTrue g.J.Naming.plan) (sym is) c.requires.truth)

use Rattle.std.proofs.Common.{rules}
use Rattle.shown.proofs.Rises.{admits, forks, merges}
use Rattle.shown.proofs.writer.ShownWriter+J+R.reader.Goals as goal

pub reader-requires : goal.reader-requires
reader-requires g c = admits g.J.Naming.plan

pub tell-requires : goal.tell-requires
tell-requires g c = forks g.J.Naming.plan _ _

pub learn-requires : goal.learn-requires
learn-requires g c = record { own = search rules; rule = merges g.J.Naming.plan _ _ _ _ }

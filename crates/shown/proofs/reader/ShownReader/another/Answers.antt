use Rattle.shown.proofs.Rises.{admits}
use Rattle.shown.proofs.reader.ShownReader.another.Goals as goal

pub reader-requires : goal.reader-requires
reader-requires g c = admits g.J.Naming.plan

use Rattle.shown.proofs.Rises.{later_self, rises}
use Rattle.shown.proofs.reader.ShownReader.over.Goals as goal

pub enter_as-requires : goal.enter_as-requires
enter_as-requires g c x = rises g.J.Naming.plan _ _ x x (later_self x) (λ h. h)

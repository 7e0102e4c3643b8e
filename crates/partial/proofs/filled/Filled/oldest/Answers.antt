use Rattle.std.proofs.Common.{Some}
use Rattle.partial.proofs.Reversed.{oldest_is}
use Rattle.partial.proofs.filled.Filled.oldest.Goals as goal

pub returns : goal.returns
returns g c = rw (← c.self.view_is) (oldest_is c.self.inside.latest (Some (c.in_ok-key.key.now, c.in_ok-key.field-0-1.now)) c.in_ok-key.ensures)

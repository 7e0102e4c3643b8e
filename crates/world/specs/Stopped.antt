-- What a stop makes of the world. No public clause cites this.
use Rattle.std.specs.Prelude.{slice_get}
use Rattle.protocol.specs.Worlds.{World}
use Rattle.protocol.specs.WorldSteps.{off_at}
use Rattle.schedule.specs.declared.wire.Spot.{Spot}
use Rattle.schedule.specs.declared.wire.Spot.TheVariants as spot

-- the domain at this place, if there is one, runs no more
abbrev pub stopped_at : World → Spot → World
stopped_at w (spot.Base b) = record w { bases = off_at b (slice_get w.bases b) w.bases }
stopped_at w (spot.Stage s) = record w { stages = off_at s (slice_get w.stages s) w.stages }
stopped_at w (spot.View r) = record w { views = off_at r (slice_get w.views r) w.views }

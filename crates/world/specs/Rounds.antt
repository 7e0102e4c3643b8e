-- What deliveries of a settle leave. No public clause cites this.
use Rattle.std.specs.Prelude.{◌≡◌, ℕ, Bool, not, List, ◌++◌}
use Rattle.model.specs.Fronts.{LogView}
use Rattle.model.specs.Histories.{Author}
use Rattle.protocol.specs.WorldSteps.{Did, Round, ended_by, is_idle}
use Rattle.machine.specs.Held.{Held, IsWhole, world_of}

module _ {F : Type 0} (log : F → LogView) (authors : F → List Author) where
  -- one delivery has gone as the definition says: whether the edge had a message, and the sessions whose fences have ended
  pub record HasMoved (d : Did) (before : List ℕ) (had : Bool) (after : List ℕ) (new : Held F) : Type 0 where
    pub world : world_of log authors new ≡ d.world
    pub whole : IsWhole log authors new
    pub ended : after ≡ before ++ ended_by d.reply
    pub moved : had ≡ not (is_idle d.reply)

  -- so has a round
  pub record IsRound (r : Round) (had : Bool) (after : List ℕ) (new : Held F) : Type 0 where
    pub world : world_of log authors new ≡ r.world
    pub whole : IsWhole log authors new
    pub ended : after ≡ r.ended
    pub moved : had ≡ r.moved

-- What a check answers at a front.
use Rattle.std.proofs.Common.{◌≡◌, List, ap}
use Rattle.model.specs.Logs.{Change}
use Rattle.model.specs.Refusals.{refusal, refusal_over}
use Rattle.base.specs.Shards.{Shard, IsAt, verdict}
use Rattle.base.proofs.Fronts.{refusal_at}

-- what is answered over the rows is answered at each front
pub at_front : (s : Shard) (e : Change) → (front : List Change) → IsAt s front → verdict (refusal_over s.key s.limit s.rows s.length e) ≡ verdict (refusal s.key s.limit front e)
at_front s e front at = ap verdict (refusal_at s front e at)

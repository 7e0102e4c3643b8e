-- Orders to evict a stage key.
use Rattle.std.specs.Prelude.{Option}
use Rattle.row.specs.Cells.{Datum}
use Rattle.row.specs.declared.refused.Refused.{Refused}
use Rattle.plan.specs.Layouts.{Layout}
use Rattle.model.specs.Refusals.{stage_refusal}
use Rattle.sessions.specs.Callers.{Caller}
use Rattle.sessions.specs.Inserts.{first_of, stolen_refusal}

-- what an order to evict a stage key is refused with for what it asks
abbrev pub order_refusal : Layout → Caller → Datum → Option Refused
order_refusal p c k = first_of (stolen_refusal c) (stage_refusal p k)

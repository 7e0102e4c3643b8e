-- Who waits for keys of a view shard.
use Rattle.std.specs.Prelude.{List, Option, Some, None, cond, is_some}
use Rattle.row.specs.Cells.{Cells}
use Rattle.row.specs.declared.value.Value.{Value}
use Rattle.partial.specs.States.{Kept}
use Rattle.view_domain.specs.Shown.{rows_at}
use Rattle.domain_turns.specs.declared.waits.Waiting.{Waiting}

-- a session goes on waiting while its key is not filled
abbrev pub waiting_on : Kept Value (List Cells) → Option Waiting → Option Waiting
waiting_on kept None = None
waiting_on kept (Some w) = cond (is_some (rows_at kept w.key)) None (Some w)

use Rattle.std.proofs.Common.{◌≡◌, ◌++◌, take, flat_map, string_bytes}
use Rattle.schedule_lines.specs.Replies.{row_line}
use Rattle.schedule_lines.proofs.replies.rows_text.Given as goal

-- a line for each row so far
abbrev pub invariant-loop-row : goal.invariant-loop-row
invariant-loop-row l = string_bytes l.text ≡ string_bytes l.initial.text ++ flat_map row_line (take l.row-index l.rows)

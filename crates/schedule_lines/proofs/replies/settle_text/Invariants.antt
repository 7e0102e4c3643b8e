use Rattle.std.proofs.Common.{◌≡◌, ◌++◌, take, flat_map, string_bytes}
use Rattle.schedule_lines.specs.Replies.{printed_fence}
use Rattle.schedule_lines.proofs.replies.settle_text.Given as goal

-- the fences so far
abbrev pub invariant-loop-session : goal.invariant-loop-session
invariant-loop-session l = string_bytes l.text ≡ string_bytes l.initial.text ++ flat_map printed_fence (take l.session-index l.sessions)

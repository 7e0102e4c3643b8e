use Rattle.std.proofs.Common.{◌+◌, ◌≤◌, length, map}
use Rattle.script.specs.Scripts.{lines_of, numbered}
use Rattle.script.proofs.Reading.{ReadUpTo}
use Rattle.script.proofs.reader.read_lines.Given as goal

-- the lines in front of the rest are the calls so far
abbrev pub invariant-loop-rest : goal.invariant-loop-rest
invariant-loop-rest g l = record {
  read : ReadUpTo g.F.Form.asks (lines_of l.text) (lines_of l.rest) l.reader.lines (map (numbered g.F.Form.asked) l.reader.calls.items);
  small : l.reader.lines + length l.rest ≤ length l.text;
}

abbrev pub decreases-loop-rest : goal.decreases-loop-rest
decreases-loop-rest g l = length l.rest

use Rattle.script.proofs.Lines.{first_line, last_line}
use Rattle.script.proofs.script.split_line.Goals as goal

pub returns-then-end-text-clause-lines : goal.returns-then-end-text-clause-lines
returns-then-end-text-clause-lines c = first_line c.args.text.now c.line_length-end.result c.line_length-end.ensures.before c.if-end-text.true (c.line_length-end.ensures.found c.if-end-text.true)

pub returns-else-end-text-clause-lines : goal.returns-else-end-text-clause-lines
returns-else-end-text-clause-lines c = last_line c.args.text.now c.line_length-end.result c.line_length-end.ensures.before c.if-end-text.false c.requires

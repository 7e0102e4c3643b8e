use Rattle.std.proofs.Common.{◌∙◌, sym}
use Rattle.row.proofs.NumberOrder.{wholes_cmp}
use Rattle.row.proofs.number.compare_numbers.Goals as goal

pub returns : goal.returns
returns c = c.cmp.ensures ∙ sym (wholes_cmp c.args.numbers.now c.args.others.now)

use Rattle.std.proofs.Common.{rules, arith}
use Rattle.std.proofs.lemmas.Grind.{common_steps}
use Rattle.std.specs.Cow.{cow_str_bytes}
use Rattle.script.proofs.Numbers.{read_once}
use Rattle.script.proofs.cell.value_of.Goals as goal

pub returns-clause-only : goal.returns-clause-only
returns-clause-only c = λ other is.
    read_once c.args.kind (cow_str_bytes c.args.word) other _ is (first_of (search rules, grind (arith, common_steps)))

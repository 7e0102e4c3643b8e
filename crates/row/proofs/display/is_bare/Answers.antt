use Rattle.std.proofs.Common.{rules, tests, arith, ◌≢◌, ◌==◌, ◌||◌, not, length, sym, ◌∙◌}
use Rattle.std.proofs.lemmas.Grind.{common_steps}
use Rattle.std.proofs.lemmas.Iterator.{YieldsList-from_slice}
use Rattle.std.proofs.lemmas.Iterator.Search.{all_from_yields_List}
use Rattle.row.specs.Printed.{is_escaped}
use Rattle.row.proofs.Printing.{is_bare_some}
use Rattle.row.proofs.display.is_bare.Goals as goal

pub returns-then-not-is_empty : goal.returns-then-not-is_empty
returns-then-not-is_empty c =
    let some : length c.args.text.now ≢ 0 = grind (arith, common_steps) in
    all_from_yields_List (λ b. not (b == 32 || is_escaped b)) _ _ c.all.result c.all.ensures.ran (YieldsList-from_slice c.args.text.now cc) (λ x b q k. search (rules, tests))
    ∙ sym (is_bare_some c.args.text.now some)

use Rattle.std.proofs.Common.{◌≡◌, ℕ, true, subst, ◌∙◌, arith}
use Rattle.std.proofs.lemmas.Bool.Decides.{nat_tests}
use Rattle.row.specs.Bags.{Each}
use Rattle.row.specs.Cells.{datum_of, has}
use Rattle.base.proofs.Kept.{if_ok}
use Rattle.base.proofs.Parts.{all_in, none_in}
use Rattle.base.proofs.index.copies_in.Goals as goal

pub returns-then-shard_of-part : goal.returns-then-shard_of-part
returns-then-shard_of-part c =
    let one : c.args.column ≡ c.args.part.column = grind (arith, nat_tests, c.if-part-column.false) in
    let keyed = subst (λ (k : ℕ). Each (λ r. has k (datum_of c.args.value.now) r ≡ true) c.args.rows.now) one c.requires.keyed in
    if_ok c.copies.result (λ v is. is ∙ all_in c.args.part (datum_of c.args.value.now) c.args.rows.now keyed (grind (arith, nat_tests, c.if-shard_of-part.true, c.shard_of.ensures.shard))) c.copies.ensures

pub returns-else-shard_of-part : goal.returns-else-shard_of-part
returns-else-shard_of-part c =
    let one : c.args.column ≡ c.args.part.column = grind (arith, nat_tests, c.if-part-column.false) in
    let keyed = subst (λ (k : ℕ). Each (λ r. has k (datum_of c.args.value.now) r ≡ true) c.args.rows.now) one c.requires.keyed in
    c.new.ensures.items ∙ none_in c.args.part (datum_of c.args.value.now) c.args.rows.now keyed (grind (arith, nat_tests, c.if-shard_of-part.false, c.shard_of.ensures.shard))

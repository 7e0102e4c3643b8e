use Rattle.std.proofs.Common.{◌≡◌, ◌<◌, take}
use Rattle.row.specs.Bags.{Each}
use Rattle.model.specs.Histories.{Author}
use Rattle.plain.proofs.legal.is_number_above.Given as goal

abbrev pub invariant-loop-author : goal.invariant-loop-author
invariant-loop-author l = Each (λ (a : Author). a.session ≡ l.session → a.number < l.number) (take l.author-index l.authors)

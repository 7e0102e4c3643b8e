use Rattle.std.proofs.Common.{◌∙◌}
use Rattle.std.proofs.lemmas.List.Sorted.{IsPermutation-trans}
use Rattle.row.proofs.room.reserve_one.Goals as goal

pub returns-clause-entries : goal.returns-clause-entries
returns-clause-entries g c =
    let more = c.in_ok-reserve.ensures.entries in
    let less = c.shrink_to.ensures.entries in
    (IsPermutation-trans c.args.map.now.entries c.reserve.new.self.entries c.shrink_to.new.self.entries more.0 less.0, less.1 ∙ more.1, λ q. less.2 q ∙ more.2 q)

use Rattle.std.proofs.Common.{reverse}
use Rattle.std.specs.Map.{keys_of}
use Rattle.std.proofs.lemmas.List.Sorted.{IsPermutation-reverse}
use Rattle.std.proofs.lemmas.Map.Keys.{IsDistinct-IsPermutation}
use Rattle.partial.proofs.Reversed.{keys-reverse}
use Rattle.partial.proofs.filled.Filled.keeps_once.Goals as goal

pub returns : goal.returns
returns g c =
    let es = c.self.inside.latest in
    rw (← c.self.view_is, keys-reverse es) (IsDistinct-IsPermutation g.K.PartialEq.eq g.met.K.Eq.laws.symm (keys_of es) (reverse (keys_of es)) (IsPermutation-reverse (keys_of es)) c.len.ensures.unique)

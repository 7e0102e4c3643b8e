use Rattle.std.proofs.lemmas.Slice.Eq.{slice_eq-Decides}
use Rattle.plain.proofs.Verdicts.{tells_of, row_decides}
use Rattle.plain.proofs.legal.are_same.Goals as goal

pub returns : goal.returns
returns c = tells_of _ _ (slice_eq-Decides row_decides _ _ _ c.eq.ensures)

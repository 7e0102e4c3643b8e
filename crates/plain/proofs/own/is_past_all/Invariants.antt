use Rattle.std.proofs.Common.{take}
use Rattle.row.specs.Bags.{Each}
use Rattle.model.specs.Legal.{IsPast}
use Rattle.model.specs.Tables.{places_of}
use Rattle.plain.proofs.own.is_past_all.Given as goal

abbrev pub invariant-loop-place : goal.invariant-loop-place
invariant-loop-place l = Each (IsPast l.plan l.cut) (places_of (take l.place-index l.own))

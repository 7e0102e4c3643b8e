use Rattle.std.proofs.Common.{take}
use Rattle.row.specs.Bags.{Each}
use Rattle.model.specs.Legal.{IsOwn}
use Rattle.model.specs.Tables.{places_of}
use Rattle.model.specs.Items.{history_of}
use Rattle.plain.proofs.own.are_own.Given as goal

abbrev pub invariant-loop-place : goal.invariant-loop-place
invariant-loop-place l = Each (IsOwn l.plan (history_of l.items) l.session) (places_of (take l.place-index l.own))

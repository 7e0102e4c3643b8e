use Rattle.std.proofs.Common.{◌≡◌, ◌-◌, ◌≤◌, true, length, take}
use Rattle.row.specs.BagChanges.{with_gains}
use Rattle.row.proofs.RecordLoops.{picked}
use Rattle.row.proofs.bag.Bag.gain_all.Given as goal

abbrev pub invariant-loop-done-then-is_err : goal.invariant-loop-done-then-is_err
invariant-loop-done-then-is_err l = record { small : l.done ≤ length l.records; gained : l.self ≡ with_gains l.fn.self (picked (λ _. true) (take l.done l.records)) }

abbrev pub decreases-loop-done-then-is_err : goal.decreases-loop-done-then-is_err
decreases-loop-done-then-is_err l = l.done

abbrev pub invariant-loop-done : goal.invariant-loop-done
invariant-loop-done l = record { small : l.done ≤ length l.records; gained : l.self ≡ with_gains l.fn.self (picked (λ _. true) (take l.done l.records)) }

abbrev pub decreases-loop-done : goal.decreases-loop-done
decreases-loop-done l = length l.records - l.done

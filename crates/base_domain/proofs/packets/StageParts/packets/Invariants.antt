use Rattle.std.proofs.Common.{◌≡◌, ◌≤◌, List, ◌++◌, length, map, vec_capacity}
use Rattle.std.specs.List.{range_with_len}
use Rattle.row.specs.declared.record.Record.{Record}
use Rattle.base_domain.specs.Told.{part_packet}
use Rattle.base_domain.proofs.packets.StageParts.packets.Given as goal

abbrev pub invariant-loop-changes : goal.invariant-loop-changes
invariant-loop-changes g l = (done : List (List Record)) × (done ++ map (λ w. w.items) l.changes-iterator.rest.items ≡ l.fn.self) × (l.stage ≡ length done)
    × (l.packets.items ≡ map (part_packet (g.F.Fronts.log (g.F.Fronts.front l.fn.right)) l.fn.from l.fn.self) (range_with_len 0 l.stage))
    × (length l.fn.self ≤ vec_capacity l.packets)

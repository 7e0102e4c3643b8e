-- The places of wires are those of the plan.
use Rattle.std.proofs.Common.{ℕ, ◌+◌, ◌<◌, map, arith}
use Rattle.std.specs.List.{range_with_len}
use Rattle.row.specs.Bags.{Each}
use Rattle.protocol.specs.Edges.{pairs}
use Rattle.protocol.proofs.Spots.{each_range}
use Rattle.protocol.proofs.Owns.{each_flat}
use Rattle.protocol.proofs.Lists.{each_map}

pairs_each : {X : Type 0} (P : X → Type 0) (f : ℕ → ℕ → X) (n m : ℕ) → ((i j : ℕ) → i < n → j < m → P (f i j)) → Each P (pairs f n m)
pairs_each P f n m g =
    each_flat P (λ x. map (f x) (range_with_len 0 m)) (range_with_len 0 n)
    (each_range (λ x. Each P (map (f x) (range_with_len 0 m))) 0 n (λ i li.
    each_map (λ y. P (f (0 + i) y)) P (f (0 + i)) (λ y p. p) (range_with_len 0 m) (each_range (λ y. P (f (0 + i) y)) 0 m (λ j lj. g (0 + i) (0 + j) (omega arith) (omega arith)))))

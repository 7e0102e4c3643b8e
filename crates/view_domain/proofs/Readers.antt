-- The view shards of a plan.
use Rattle.std.proofs.Common.{ℕ, ◌+◌, ◌<◌, List, [], ◌∷◌, map, length, arith}
use Rattle.std.specs.List.{range_with_len}
use Rattle.row.specs.Bags.{Each}
use Rattle.plan.specs.Layouts.{Layout}
use Rattle.packet.specs.Readers.{Reader, readers, readers_of}
use Rattle.protocol.proofs.Owns.{each_flat}
use Rattle.protocol.proofs.Spots.{each_range}

-- they are of views of the plan
pub readers_there : (p : Layout) → Each (λ (r : Reader). r.view < length p.views) (readers p)
readers_there p =
    each_flat (λ (r : Reader). r.view < length p.views) (readers_of p) (range_with_len 0 (length p.views))
    (each_range (λ i. Each (λ (r : Reader). r.view < length p.views) (readers_of p i)) 0 (length p.views) (λ k lt. of_view (0 + k) (omega (arith, lt))))
  where
    of_view : (i : ℕ) → i < length p.views → Each (λ (r : Reader). r.view < length p.views) (readers_of p i)
    of_view i lt = all (range_with_len 0 _)
      where
        all : (js : List ℕ) → Each (λ (r : Reader). r.view < length p.views) (map (λ j. record { view = i; shard = j }) js)
        all [] = tt
        all (j ∷ js) = (lt, all js)

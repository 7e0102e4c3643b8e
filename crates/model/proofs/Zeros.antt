-- Floors that are all zeros.
use Rattle.std.proofs.Common.{◌≡◌, ℕ, zero, suc, ◌<◌, List, [], ◌∷◌, length, map, replicate, slice_index_or, refl, arith}
use Rattle.plan.specs.Layouts.{ViewLayout, Layout}
use Rattle.model.specs.Histories.{Lengths, Floors, floor_at}

abbrev pub zero_rows : List ViewLayout → Floors
zero_rows vs = map (λ w. replicate w.shards []) vs

row_at : (vs : List ViewLayout) (v : ℕ) (d : ViewLayout) → v < length vs → slice_index_or (zero_rows vs) v [] ≡ replicate ((slice_index_or vs v d).shards) []
row_at [] v d lt = absurd (omega arith)
row_at (w ∷ vs) zero d lt = refl
row_at (w ∷ vs) (suc v) d lt = row_at vs v d (omega arith)

same_at : {A : Type 0} (d : A) (n j : ℕ) → slice_index_or (replicate n d) j d ≡ d
same_at d zero j = refl
same_at d (suc n) zero = refl
same_at d (suc n) (suc j) = same_at d n j

zeros_at : (vs : List ViewLayout) (v j : ℕ) → floor_at (zero_rows vs) v j ≡ []
zeros_at [] v j = refl
zeros_at (w ∷ vs) zero j = let d : Lengths = [] in same_at d w.shards j
zeros_at (w ∷ vs) (suc v) j = zeros_at vs v j

pub zero_floors : (p : Layout) (floors : Floors) → floors ≡ zero_rows p.views → (v j : ℕ) → floor_at floors v j ≡ []
zero_floors p floors is v j = rw is (zeros_at p.views v j)

-- Orders of the positions of a table, and the entries in such an order.
use Rattle.std.specs.Prelude.{◌≡◌, ℕ, ◌+◌, ◌==◌, List, [], ◌∷◌, length, slice_get, if◌then◌else◌, nat_lt}
use Rattle.std.specs.Option.{option_map_or}

-- how often p is there
abbrev pub times : ℕ → List ℕ → ℕ
times p [] = 0
times p (x ∷ xs) = (if x == p then 1 else 0) + times p xs

-- each position below the length is there once, and no other
abbrev pub IsOrder : List ℕ → Type 0
IsOrder ps = (p : ℕ) → times p ps ≡ (if nat_lt p (length ps) then 1 else 0)

-- without the first p
abbrev pub without : ℕ → List ℕ → List ℕ
without p [] = []
without p (x ∷ xs) = if x == p then xs else x ∷ without p xs

-- what x is once `from` goes by the number `to`
abbrev pub renamed : ℕ → ℕ → ℕ → ℕ
renamed from to x = if x == from then to else x

-- the entries at the positions
abbrev pub entries_at : {X : Type 0} → List X → List ℕ → List X
entries_at es [] = []
entries_at es (p ∷ ps) = option_map_or (λ e. e ∷ entries_at es ps) (slice_get es p) (entries_at es ps)

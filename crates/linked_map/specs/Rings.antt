-- Rings of links between positions.
use Rattle.std.specs.Prelude.{◌≡◌, ℕ, zero, suc, ◌^◌, ◌<◌, List, [], ◌∷◌, length, slice_set, slice_index_or}
use Rattle.linked_map.specs.Orders.{IsOrder}
use Rattle.linked_map.specs.declared.ring.Link.{Link}

abbrev pub no_link : Link
no_link = record { older = 0; newer = 0 }

abbrev pub older_at : List Link → ℕ → ℕ
older_at links p = (slice_index_or links p no_link).older

abbrev pub newer_at : List Link → ℕ → ℕ
newer_at links p = (slice_index_or links p no_link).newer

abbrev pub with_older : List Link → ℕ → ℕ → List Link
with_older links p x = slice_set links p (record { older = x; newer = newer_at links p })

abbrev pub with_newer : List Link → ℕ → ℕ → List Link
with_newer links p x = slice_set links p (record { older = older_at links p; newer = x })

-- the neighbours of p are linked with each other
unfoldable pub parted : List Link → ℕ → List Link
parted links p = with_newer (with_older links (newer_at links p) (older_at links p)) (older_at links p) (newer_at links p)

-- p is linked in as newer than the first
unfoldable pub joined : List Link → ℕ → ℕ → List Link
joined links p first = let last = newer_at links first in
    with_newer (with_older (with_newer (with_older links p first) p last) last p) first p

-- the neighbours of p are linked with q in its place
unfoldable pub told : List Link → ℕ → ℕ → List Link
told links p q = with_newer (with_older links (newer_at links p) q) (older_at links p) q

-- n positions from p on, each with the next older one after it
abbrev pub walk : (ℕ → ℕ) → ℕ → ℕ → List ℕ
walk older zero p = []
walk older (suc n) p = p ∷ walk older n (older p)

-- all positions from the latest on
abbrev pub order_of : List Link → ℕ → List ℕ
order_of links latest = walk (older_at links) (length links) latest

module _ (older newer : ℕ → ℕ) where
  -- from a each position of the list is the next older one, and b comes behind the last
  abbrev pub Runs : ℕ → List ℕ → ℕ → Type 0
  Runs a [] b = (older a ≡ b) × (newer b ≡ a)
  Runs a (x ∷ xs) b = ((older a ≡ x) × (newer x ≡ a)) × Runs x xs b

  -- and the first comes behind the last
  abbrev pub IsCycle : List ℕ → Type 0
  IsCycle [] = Unit {0}
  IsCycle (p ∷ ps) = Runs p ps p

-- the walk takes in each position once, and the links lead round it both ways
pub record IsRing (links : List Link) (latest : ℕ) : Type 0 where
  pub small : length links < 2 ^ 32
  pub order : IsOrder (order_of links latest)
  pub cycle : IsCycle (older_at links) (newer_at links) (order_of links latest)

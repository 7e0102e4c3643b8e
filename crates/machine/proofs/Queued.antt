-- Queues: what holds of each message on them, and what stands on them as far as keys go.
use Rattle.std.proofs.Common.{◌≡◌, ℕ, zero, suc, List, [], ◌∷◌, ◌++◌, map, replicate, slice_set, slice_index_or, refl, ap, sym, ◌∙◌, subst}
use Rattle.std.proofs.lemmas.List.{map-append}
use Rattle.row.specs.Bags.{Each}
use Rattle.protocol.specs.Edges.{pushed, queue, with_queue}
use Rattle.protocol.specs.Worlds.{no_queues}
use Rattle.protocol.proofs.Lists.{map_set}
use Rattle.schedule.specs.Taken.{IsTaken}
use Rattle.machine.specs.Held.{AreQueued}
use Rattle.plan.proofs.OwnTexts.{each_join}

-- ---- one place changes
-- what holds of each place holds after one is set to what it holds of
pub set_holds : {X : Type 0} (P : ℕ → X → Type 0) (d : X) (xs : List X) (i : ℕ) (x : X) → ((j : ℕ) → P j (slice_index_or xs j d)) → P i x → (j : ℕ) → P j (slice_index_or (slice_set xs i x) j d)
set_holds P d [] i x h p j = h j
set_holds P d (y ∷ xs) zero x h p zero = p
set_holds P d (y ∷ xs) zero x h p (suc j) = h (suc j)
set_holds P d (y ∷ xs) (suc i) x h p zero = h zero
set_holds P d (y ∷ xs) (suc i) x h p (suc j) = set_holds (λ k. P (suc k)) d xs i x (λ k. h (suc k)) p j

pub map_or : {X Y : Type 0} (f : X → Y) (xs : List X) (i : ℕ) (d : X) → slice_index_or (map f xs) i (f d) ≡ f (slice_index_or xs i d)
map_or f [] i d = refl
map_or f (x ∷ xs) zero d = refl
map_or f (x ∷ xs) (suc i) d = map_or f xs i d

-- ---- what holds of each message
queued_taken : {X : Type 0} (Is : ℕ → ℕ → X → Type 0) (q : List (List (List X))) (r i : ℕ) (k : X) (rest : List X) → queue q r i ≡ k ∷ rest → AreQueued Is q → AreQueued Is (with_queue q r i rest)
queued_taken Is q r i k rest e h =
    set_holds (λ r inbox. (j : ℕ) → Each (Is r j) (slice_index_or inbox j [])) [] q r (slice_set (slice_index_or q r []) i rest) h
    (set_holds (λ j xs. Each (Is r j) xs) [] (slice_index_or q r []) i rest (h r) (subst (Each (Is r i)) e (h r i)).1)

-- of those that are left when one is taken off
pub still_queued : {X : Type 0} (Is : ℕ → ℕ → X → Type 0) (old new : List (List (List X))) (r i : ℕ) (k : X) → IsTaken old r i k new → AreQueued Is old → AreQueued Is new
still_queued Is old new r i k t h = subst (AreQueued Is) (sym t.is) (queued_taken Is old r i k t.rest t.was h)

pub first_queued : {X : Type 0} (Is : ℕ → ℕ → X → Type 0) (q : List (List (List X))) (r i : ℕ) (k : X) (rest : List X) → queue q r i ≡ k ∷ rest → AreQueued Is q → Is r i k
first_queued Is q r i k rest e h = (subst (Each (Is r i)) e (h r i)).0

pub queued_pushed : {X : Type 0} (Is : ℕ → ℕ → X → Type 0) (i : ℕ) (xss : List (List X)) (q : List (List (List X))) → AreQueued Is q → ((r : ℕ) → Each (Is r i) (slice_index_or xss r [])) → AreQueued Is (pushed i xss q)
queued_pushed Is i [] q h p r j = h r j
queued_pushed Is i (xs ∷ xss) [] h p r j = tt
queued_pushed Is i (xs ∷ xss) (inbox ∷ q) h p zero j =
    set_holds (λ j ys. Each (Is zero j) ys) [] inbox i (slice_index_or inbox i [] ++ xs) (h zero) (each_join (Is zero i) (slice_index_or inbox i []) xs (h zero i) (p zero)) j
queued_pushed Is i (xs ∷ xss) (inbox ∷ q) h p (suc r) j = queued_pushed (λ r. Is (suc r)) i xss q (λ r. h (suc r)) (λ r. p (suc r)) r j

-- ---- as far as keys go
module _ {X Y : Type 0} (f : X → Y) where
  abbrev in_each : List (List (List X)) → List (List (List Y))
  in_each q = map (map (map f)) q

  pub map_queue : (q : List (List (List X))) (r i : ℕ) → queue (in_each q) r i ≡ map f (queue q r i)
  map_queue q r i = ap (λ inbox. slice_index_or inbox i []) (map_or (map (map f)) q r []) ∙ map_or (map f) (slice_index_or q r []) i []

  pub map_taken : (q : List (List (List X))) (r i : ℕ) (xs : List X) → in_each (with_queue q r i xs) ≡ with_queue (in_each q) r i (map f xs)
  map_taken q r i xs =
      map_set (map (map f)) q r (slice_set (slice_index_or q r []) i xs)
      ∙ ap (λ inbox. slice_set (in_each q) r inbox)
      (map_set (map f) (slice_index_or q r []) i xs ∙ ap (λ inbox. slice_set inbox i (map f xs)) (sym (map_or (map (map f)) q r [])))

  put_last : (inbox : List (List X)) (i : ℕ) (xs : List X) → map (map f) (slice_set inbox i (slice_index_or inbox i [] ++ xs)) ≡ slice_set (map (map f) inbox) i (slice_index_or (map (map f) inbox) i [] ++ map f xs)
  put_last inbox i xs =
      map_set (map f) inbox i (slice_index_or inbox i [] ++ xs)
      ∙ ap (λ ys. slice_set (map (map f) inbox) i ys) (map-append f (slice_index_or inbox i []) xs ∙ ap (λ ys. ys ++ map f xs) (sym (map_or (map f) inbox i [])))

  pub map_pushed : (i : ℕ) (xss : List (List X)) (q : List (List (List X))) → in_each (pushed i xss q) ≡ pushed i (map (map f) xss) (in_each q)
  map_pushed i [] q = refl
  map_pushed i (xs ∷ xss) [] = refl
  map_pushed i (xs ∷ xss) (inbox ∷ q) = ap (λ b. b ∷ in_each (pushed i xss q)) (put_last inbox i xs) ∙ ap (λ t. slice_set (map (map f) inbox) i (slice_index_or (map (map f) inbox) i [] ++ map f xs) ∷ t) (map_pushed i xss q)

-- ---- nothing is sent
abbrev empties : {X : Type 0} → ℕ → List (List X)
empties n = replicate n []

pub nothing_queued : {X : Type 0} (n m r i : ℕ) → queue (no_queues {X = X} n m) r i ≡ []
nothing_queued zero m r i = refl
nothing_queued (suc n) m zero i = nothing_in m i
  where
    nothing_in : {X : Type 0} (m i : ℕ) → slice_index_or (empties {X = X} m) i [] ≡ []
    nothing_in zero i = refl
    nothing_in (suc m) zero = refl
    nothing_in (suc m) (suc i) = nothing_in m i
nothing_queued (suc n) m (suc r) i = nothing_queued n m r i

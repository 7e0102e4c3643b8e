-- The pieces that are here, place by place.
use Rattle.std.proofs.Common.{◌≡◌, List, [], ◌∷◌, ◌++◌, Option, Some, None, refl, ap}
use Rattle.partial.specs.States.{somes}

pub somes_push_none : {E : Type 0} (ps : List (Option E)) → somes (ps ++ None ∷ []) ≡ somes ps
somes_push_none [] = refl
somes_push_none (None ∷ ps) = somes_push_none ps
somes_push_none (Some p ∷ ps) = ap (λ xs. p ∷ xs) (somes_push_none ps)

pub somes_push_some : {E : Type 0} (ps : List (Option E)) (e : E) → somes (ps ++ Some e ∷ []) ≡ somes ps ++ e ∷ []
somes_push_some [] e = refl
somes_push_some (None ∷ ps) e = somes_push_some ps e
somes_push_some (Some p ∷ ps) e = ap (λ xs. p ∷ xs) (somes_push_some ps e)

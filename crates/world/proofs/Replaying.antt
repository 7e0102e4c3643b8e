-- The replies to a schedule, event by event.
use Rattle.std.proofs.Common.{◌≡◌, ℕ, suc, ◌≤◌, List, [], ◌∷◌, ◌++◌, drop, map, length, Some, slice_get, refl, ap, sym, ◌∙◌, append_assoc, append-nil}
use Rattle.std.proofs.Math.ListN.{drop_of_length-le}
use Rattle.model.proofs.Lists.{drop_at}
use Rattle.protocol.specs.Events.{Event, Reply}
use Rattle.protocol.specs.Worlds.{World}
use Rattle.protocol.specs.WorldSteps.{replies, step}

-- one more reply
pub replied : (es : List Event) (i j : ℕ) (e : Event) (w v : World) (done more : List Reply) (r : Reply) (all : List Reply) → slice_get es i ≡ Some e → j ≡ suc i → v ≡ (step w e).world → r ≡ (step w e).reply → more ≡ done ++ r ∷ []
    → done ++ replies w (drop i es) ≡ all → more ++ replies v (drop j es) ≡ all
replied es i j e w v done more r all at next is said put whole =
    ap (λ xs. xs ++ replies v (drop j es)) put
    ∙ (append_assoc done (r ∷ []) (replies v (drop j es))
    ∙ (ap (λ k. done ++ r ∷ replies v (drop k es)) next
    ∙ (ap (λ u. done ++ r ∷ replies u (drop (suc i) es)) is
    ∙ (ap (λ x. done ++ x ∷ replies (step w e).world (drop (suc i) es)) said
    ∙ (ap (λ xs. done ++ replies w xs) (sym (drop_at es i e at)) ∙ whole)))))

-- none is left
pub all_replied : (es : List Event) (i : ℕ) (w : World) (done all : List Reply) → length es ≤ i → done ++ replies w (drop i es) ≡ all → done ≡ all
all_replied es i w done all le whole = sym (append-nil done) ∙ (ap (λ xs. done ++ replies w xs) (sym (drop_of_length-le es le)) ∙ whole)

pub map_push : {X Y : Type 0} (f : X → Y) (xs : List X) (x : X) → map f (xs ++ x ∷ []) ≡ map f xs ++ f x ∷ []
map_push f [] x = refl
map_push f (y ∷ xs) x = ap (λ ys. f y ∷ ys) (map_push f xs x)

-- What is written, reply by reply.
use Rattle.std.proofs.Common.{◌≡◌, ℕ, suc, ◌≤◌, List, [], ◌++◌, drop, length, Option, Some, None, slice_get, ap, sym, ◌∙◌, append_assoc, append-nil}
use Rattle.std.proofs.Math.ListN.{drop_of_length-le}
use Rattle.std.specs.Io.KnownBytes.{Appends}
use Rattle.plan.specs.Layouts.{Layout}
use Rattle.model.proofs.Lists.{drop_at}
use Rattle.protocol.specs.Events.{Event, Reply}
use Rattle.protocol.specs.Worlds.{World}
use Rattle.protocol.specs.WorldSteps.{replies, step}
use Rattle.schedule_lines.specs.Replies.{printed_reply, printed_replies}

-- two texts, one after the other
pub appends_both : (a b c : Option (List ℕ)) (x y : List ℕ) → Appends a b x → Appends b c y → Appends a c (x ++ y)
appends_both None b c x y first second = tt
appends_both (Some xs) None c x y first second = absurd first
appends_both (Some xs) (Some ys) None x y first second = absurd second
appends_both (Some xs) (Some ys) (Some zs) x y first second = second ∙ (ap (λ w. w ++ y) first ∙ append_assoc xs x y)

-- nothing
pub appends_none : (a : Option (List ℕ)) → Appends a a []
appends_none None = tt
appends_none (Some xs) = sym (append-nil xs)

-- one reply more is written
pub printed_next : (p : Layout) (es : List Event) (i j : ℕ) (e : Event) (w v : World) (done : List ℕ) (r : Reply) (all : List ℕ) → slice_get es i ≡ Some e → j ≡ suc i → v ≡ (step w e).world → r ≡ (step w e).reply → done ++ printed_replies p (replies w (drop i es)) ≡ all → (done ++ printed_reply p r) ++ printed_replies p (replies v (drop j es)) ≡ all
printed_next p es i j e w v done r all at next is said whole =
    append_assoc done (printed_reply p r) (printed_replies p (replies v (drop j es)))
    ∙ (ap (λ k. done ++ (printed_reply p r ++ printed_replies p (replies v (drop k es)))) next
    ∙ (ap (λ u. done ++ (printed_reply p r ++ printed_replies p (replies u (drop (suc i) es)))) is
    ∙ (ap (λ x. done ++ (printed_reply p x ++ printed_replies p (replies (step w e).world (drop (suc i) es)))) said
    ∙ (ap (λ xs. done ++ printed_replies p (replies w xs)) (sym (drop_at es i e at)) ∙ whole))))

-- none is left
pub printed_all : (p : Layout) (es : List Event) (i : ℕ) (w : World) (done all : List ℕ) → length es ≤ i → done ++ printed_replies p (replies w (drop i es)) ≡ all → done ≡ all
printed_all p es i w done all le whole = sym (append-nil done) ∙ (ap (λ xs. done ++ printed_replies p (replies w xs)) (sym (drop_of_length-le es le)) ∙ whole)

-- Lines of one plan.
use Rattle.std.proofs.Common.{◌≡◌, ◌⊎◌, inl, inr, ℕ, zero, suc, ◌≤◌, nat_eq, IsTrue, List, [], ◌∷◌, length, refl, sym, ◌∙◌, arith}
use Rattle.std.proofs.lemmas.Bool.{eqb-true}
use Rattle.plan.specs.Layouts.{Layout}
use Rattle.model.specs.Fronts.{LogView}
use Rattle.packet.specs.Lines.{IsOf, entries_of, fronts_to, plan_of}
use Rattle.packet.specs.Truth.{Pointwise}
use Rattle.domain_turns.specs.ViewTurns.{are_one}

-- two lines of a plan have fronts of the same logs
pub lines_one : (p : Layout) (bs : List ℕ) (held to : List LogView) → Pointwise (IsOf p) bs held → Pointwise (IsOf p) bs to → Pointwise are_one held to
lines_one p [] [] [] h t = tt
lines_one p [] (l ∷ held) to h t = absurd h
lines_one p [] [] (l ∷ to) h t = absurd t
lines_one p (b ∷ bs) [] to h t = absurd h
lines_one p (b ∷ bs) (l ∷ held) [] h t = absurd t
lines_one p (b ∷ bs) (l ∷ held) (m ∷ to) h t = ((h.0.plan ∙ sym t.0.plan, h.0.base ∙ sym t.0.base), lines_one p bs held to h.1 t.1)

-- of two lines of which one has no front, that the one starts where the other ends is that neither has
pub starts_alike : (ns : List ℕ) (to end : List LogView) → (length to ≡ 0) ⊎ (length end ≡ 0) → length (entries_of end) ≤ length ns → (IsTrue (nat_eq (length to) (length end)) → (plan_of end ≡ plan_of to) × (fronts_to ns (entries_of end) ≡ entries_of to)) × ((plan_of end ≡ plan_of to) × (fronts_to ns (entries_of end) ≡ entries_of to) → IsTrue (nat_eq (length to) (length end)))
starts_alike [] [] [] none le = (λ t. (refl, refl), λ h. refl)
starts_alike (n ∷ ns) [] [] none le = (λ t. (refl, refl), λ h. refl)
starts_alike [] [] (e ∷ end) none le = absurd (omega (arith, le))
starts_alike (n ∷ ns) [] (e ∷ end) none le = (λ t. absurd (omega (arith, eqb-true zero (suc (length end)) t)), λ h. let f = h.1 in cc)
starts_alike [] (t ∷ to) [] none le = (λ f. absurd (omega (arith, eqb-true (suc (length to)) zero f)), λ h. let f = h.1 in cc)
starts_alike (n ∷ ns) (t ∷ to) [] none le = (λ f. absurd (omega (arith, eqb-true (suc (length to)) zero f)), λ h. let f = h.1 in cc)
starts_alike ns (t ∷ to) (e ∷ end) (inl z) le = absurd (omega (arith, z))
starts_alike ns (t ∷ to) (e ∷ end) (inr z) le = absurd (omega (arith, z))

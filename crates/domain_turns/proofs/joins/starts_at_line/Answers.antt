use Rattle.std.proofs.Common.{◌≡◌, ◌⊎◌, ◌≤◌, inl, inr, length, sym, ◌∙◌, subst}
use Rattle.model.specs.Places.{sources}
use Rattle.model.specs.Queries.{Line}
use Rattle.packet.specs.Lines.{AreOf}
use Rattle.domain_turns.proofs.Due.{first_plan}
use Rattle.domain_turns.proofs.Lines.{lines_one, starts_alike}
use Rattle.domain_turns.proofs.joins.starts_at_line.Goals as goal
use Rattle.domain_turns.proofs.joins.starts_at_line.Goals.{then-sources-eq0-via-then-sources-eq0, then-sources-eq0-via-else-sources-eq0+then-sources-eq0-2}

pub starts_at-requires-clause-one : goal.starts_at-requires-clause-one
starts_at-requires-clause-one g c =
    let p = g.J.Naming.plan in
    let own = first_plan c.to-to.result.now _ _ c.front-front.ensures c.to-to.ensures.plan in
    let other = first_plan c.to-end.result.now _ _ c.front-other.ensures c.to-end.ensures.plan in
    lines_one p (sources p) _ _ (subst (λ q. AreOf q c.to-to.result.now) (sym own) c.to-to.ensures.of) (subst (λ q. AreOf q c.to-end.result.now) (sym other) c.to-end.ensures.of)

pub returns-then-sources-eq0 : goal.returns-then-sources-eq0
returns-then-sources-eq0 g c =
    let none : (length c.to-to.result.now ≡ 0) ⊎ (length c.to-end.result.now ≡ 0) = elim c.then-sources-eq0.branch [
      | then-sources-eq0-via-then-sources-eq0 w ↦ inl (sym c.sources.ensures ∙ w.if-sources-eq0.true)
      | then-sources-eq0-via-else-sources-eq0+then-sources-eq0-2 w ↦ inr (sym w.sources-else-sources-eq0.ensures ∙ w.if-sources-eq0-2.true)
    ] in
    let count = subst (λ (l : Line). length l ≤ length c.from-from.result.now) (sym c.to-end.ensures.to) c.from-from.ensures.count in
    rw (← c.from-from.ensures.starts, ← c.to-to.ensures.to, ← c.to-end.ensures.to, ← c.to-to.ensures.plan, ← c.to-end.ensures.plan, c.sources-then-sources-eq0.ensures, c.sources-then-sources-eq0-2.ensures)
    (starts_alike c.from-from.result.now c.to-to.result.now c.to-end.result.now none count)

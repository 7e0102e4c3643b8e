use Rattle.std.proofs.Common.{◌<◌, ◌≡◌, ℕ, List, [], length, map, slice_index_or, ap, sym, ◌∙◌, arith, rules}
use Rattle.std.proofs.lemmas.List.{get_or-map, length-map, take_more_same}
use Rattle.model.proofs.lengths.Lengths.is_as_long.Goals as goal

pub returns-then-line : goal.returns-then-line
returns-then-line c =
    let own = c.args.self.now in
    let other = c.args.other.now in
    let stage = c.loop-stage.stage in
    let in_own : stage < length own = search rules in
    let in_other : stage < length other = search rules in
    let alike = λ (e : map length own ≡ map length other). sym (get_or-map length own stage [] 0 in_own) ∙ (ap (λ (ns : List ℕ). slice_index_or ns stage 0) e ∙ get_or-map length other stage [] 0 in_other) in
    (λ b. search rules, λ e. absurd (c.if-line.true (ap length c.line.ensures ∙ (alike e ∙ ap length (sym c.line-in-loop-stage.ensures)))))

pub loop-stage-preserved : goal.loop-stage-preserved
loop-stage-preserved c =
    let own = c.args.self.now in
    let other = c.args.other.now in
    let stage = c.loop-stage.stage in
    let in_own : stage < length own = search rules in
    let in_other : stage < length other = search rules in
    let alike : length (slice_index_or own stage []) ≡ length (slice_index_or other stage []) = search rules in
    take_more_same (map length own) (map length other) stage 0 (omega (arith, in_own, length-map own length)) (omega (arith, in_other, length-map other length)) c.loop-stage.invariant (get_or-map length own stage [] 0 in_own ∙ (alike ∙ sym (get_or-map length other stage [] 0 in_other)))

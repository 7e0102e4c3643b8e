use Rattle.std.proofs.Common.{◌≡◌, true, ap, subst, sym, filter, ◌∙◌, [], ◌∷◌, ◌++◌}
use Rattle.std.specs.HashMap.{values}
use Rattle.row.specs.Bags.{Each}
use Rattle.row.specs.Cells.{datum_of, has}
use Rattle.row.proofs.Filtered.{Each-filtered}
use Rattle.model.specs.Logs.{rows_of}
use Rattle.base.specs.Parts.{found, is_in}
use Rattle.base.proofs.Finds.{wanted, finds, passes_part, passes_value, found_all, found_sorted}
use Rattle.base.proofs.Indexes.{found_by}
use Rattle.base.proofs.Kept.{if_ok}
use Rattle.base.proofs.shard.BaseShard.lookup.Goals as goal
use Rattle.base.proofs.shard.BaseShard.lookup.Goals.{else-has-via-then-has+else-has-2, else-has-via-else-has}

pub copies_in-requires-clause-keyed : goal.copies_in-requires-clause-keyed
copies_in-requires-clause-keyed c =
    let d = datum_of c.args.value.now in
    let by = rw c.in-Some.is at c.index.ensures.found in
    subst (λ rows. Each (λ r. has c.args.column d r ≡ true) rows) (sym c.rows_of.ensures) (rw by.0 (Each-filtered (has c.args.column d) c.in-Some.rows.now.rows))

pub returns-in-Some-clause-rows : goal.returns-in-Some-clause-rows
returns-in-Some-clause-rows c =
    let d = datum_of c.args.value.now in
    let by = rw c.in-Some.is at c.index.ensures.found in
    let up = rw c.in-Some.is at c.index.ensures.in_order in
    if_ok c.copies_in.result
    (λ v is. is ∙ (ap (filter (is_in c.args.part)) c.rows_of.ensures ∙ found_by c.in-Some.rows.now c.args.column d c.args.part c.args.self.now.rows up by.0 by.1)) c.copies_in.ensures

pub returns-in-Some-clause-front : goal.returns-in-Some-clause-front
returns-in-Some-clause-front c =
    let d = datum_of c.args.value.now in
    if_ok c.copies_in.result (λ v is. λ front at. is ∙ (ap (found c.args.column d c.args.part) at.rows ∙ found_sorted c.args.column d c.args.part (rows_of c.args.self.now.key front)))
    (returns-in-Some-clause-rows c)

pub loop-row-preserved-then-has-2 : goal.loop-row-preserved-then-has-2
loop-row-preserved-then-has-2 c =
    let v = datum_of c.args.value.now in
    finds c.args.column v c.args.part c.in-Some-row.row.now c.next.new.self (wanted c.args.column v c.args.part c.into_iter-row-iterator.result) c.loop-row.found.items c.push.new.self.items
    (sym c.has.ensures ∙ c.if-has.true) (sym c.has-then-has.ensures ∙ c.if-has-2.true) (rw c.in-Some-row.ensures.steps at c.loop-row.invariant) (c.in_ok-push.ensures.items ∙ ap (λ x. c.loop-row.found.items ++ x ∷ []) c.in_ok-try_clone.ensures)

pub loop-row-preserved : goal.loop-row-preserved
loop-row-preserved c =
    let v = datum_of c.args.value.now in
    let before = rw c.in-Some-row.ensures.steps at c.loop-row.invariant in
    elim c.else-has.branch [
      | else-has-via-then-has+else-has-2 w ↦ rw (passes_value c.args.column v c.args.part c.in-Some-row.row.now c.next.new.self (sym w.has-then-has.ensures ∙ w.if-has-2.false)) at before
      | else-has-via-else-has w ↦ rw (passes_part c.args.column v c.args.part c.in-Some-row.row.now c.next.new.self (sym c.has.ensures ∙ w.if-has.false)) at before
    ]

pub returns-clause-rows : goal.returns-clause-rows
returns-clause-rows c =
    let v = datum_of c.args.value.now in
    let rows = values c.self.inside.rows in
    let all = rw (c.in-None.ensures.steps.0, c.into_iter-row-iterator.ensures.into_iter_gives, c.values-row-items.ensures) at c.loop-row.invariant in
    rw (← c.self.view_is) (found_all c.args.column v c.args.part rows c.loop-row.found.items c.sort.new.self.items all c.in_ok-sort.ensures.permutation c.in_ok-sort.ensures.sorted)

pub returns-clause-front : goal.returns-clause-front
returns-clause-front c = λ front at.
    let d = datum_of c.args.value.now in
    returns-clause-rows c ∙ (ap (found c.args.column d c.args.part) at.rows ∙ found_sorted c.args.column d c.args.part (rows_of c.args.self.now.key front))

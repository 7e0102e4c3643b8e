use Rattle.std.proofs.Common.{◌≡◌, ◌+◌, ◌++◌, ◌∷◌, [], true, false, arith, subst, sym, ap, ◌∙◌, drop}
use Rattle.row.specs.Bags.{IsAscending, times}
use Rattle.row.specs.Cells.{Cells, row_cmp}
use Rattle.row.specs.CellOrder.{row_total}
use Rattle.row.proofs.BagLemmas.{times-append, not_above}
use Rattle.std.specs.Ordering.{is_gt}
use Rattle.partial.proofs.Merges.{own_up, other_up, moved, rest_is}
use Rattle.partial.proofs.bags.merged.Goals as goal

pub loop-i-preserved-then-is_gt : goal.loop-i-preserved-then-is_gt
loop-i-preserved-then-is_gt c =
    let xs = c.args.first.now in
    let ys = c.args.second.now in
    let i = c.loop-i.i in
    let j = c.loop-i.j in
    let x = c.index-first-i.result in
    let y = c.index-second-j.result in
    let done = c.loop-i.all.items in
    let put : c.push.new.self.items ≡ done ++ y ∷ [] = c.in_ok-push.ensures.items ∙ ap (λ r. done ++ r ∷ []) c.in_ok-try_clone.ensures in
    let above : is_gt (row_cmp x y) ≡ true = ap is_gt (sym c.cmp.ensures) ∙ (sym c.is_gt.ensures ∙ c.if-is_gt.true) in
    record {
      first_within = c.loop-i.invariant.first_within;
      second_within = omega (arith, c.if-j-second.true);
      first_up = subst (λ l. IsAscending row_cmp (l ++ drop i xs)) (sym put) (other_up row_cmp row_total ys xs j i y x c.if-j-second.true c.index-second-j.is c.loop-i-test.true c.index-first-i.is done (not_above row_cmp row_total x y above) c.loop-i.invariant.second_up c.loop-i.invariant.first_up);
      second_up = subst (λ l. IsAscending row_cmp (l ++ drop (j + 1) ys)) (sym put) (own_up row_cmp row_total ys xs j i y x c.if-j-second.true c.index-second-j.is c.loop-i-test.true c.index-first-i.is done c.loop-i.invariant.second_up);
      counts = λ z. omega (arith, c.loop-i.invariant.counts z, ap (times row_cmp z) put, moved row_cmp row_total ys xs j i y x c.if-j-second.true c.index-second-j.is c.loop-i-test.true c.index-first-i.is done z);
    }

pub loop-i-preserved : goal.loop-i-preserved
loop-i-preserved c =
    let xs = c.args.first.now in
    let ys = c.args.second.now in
    let i = c.loop-i.i in
    let j = c.loop-i.j in
    let x = c.index-first-i.result in
    let y = c.index-second-j.result in
    let done = c.loop-i.all.items in
    let put : c.push-else-is_gt.new.self.items ≡ done ++ x ∷ [] = c.in_ok-push-2.ensures.items ∙ ap (λ r. done ++ r ∷ []) c.in_ok-try_clone-2.ensures in
    let below : is_gt (row_cmp x y) ≡ false = ap is_gt (sym c.cmp.ensures) ∙ (sym c.is_gt.ensures ∙ c.if-is_gt.false) in
    record {
      first_within = omega (arith, c.loop-i-test.true);
      second_within = c.loop-i.invariant.second_within;
      first_up = subst (λ l. IsAscending row_cmp (l ++ drop (i + 1) xs)) (sym put) (own_up row_cmp row_total xs ys i j x y c.loop-i-test.true c.index-first-i.is c.if-j-second.true c.index-second-j.is done c.loop-i.invariant.first_up);
      second_up = subst (λ l. IsAscending row_cmp (l ++ drop j ys)) (sym put) (other_up row_cmp row_total xs ys i j x y c.loop-i-test.true c.index-first-i.is c.if-j-second.true c.index-second-j.is done below c.loop-i.invariant.first_up c.loop-i.invariant.second_up);
      counts = λ z. omega (arith, c.loop-i.invariant.counts z, ap (times row_cmp z) put, moved row_cmp row_total xs ys i j x y c.loop-i-test.true c.index-first-i.is c.if-j-second.true c.index-second-j.is done z);
    }

pub returns-clause-counts : goal.returns-clause-counts
returns-clause-counts c = λ z.
    let xs = drop c.loop-i.i c.args.first.now in
    let ys = drop c.loop-i.j c.args.second.now in
    let one : c.copy_each.new.all.items ≡ c.loop-i.all.items ++ xs = c.in_ok-copy_each.ensures ∙ ap (λ l. c.loop-i.all.items ++ l) (rest_is c.args.first.now c.loop-i.i) in
    let all : c.copy_each-2.new.all.items ≡ (c.loop-i.all.items ++ xs) ++ ys = c.in_ok-copy_each-2.ensures ∙ (ap (λ l. c.copy_each.new.all.items ++ l) (rest_is c.args.second.now c.loop-i.j) ∙ ap (λ l. l ++ ys) one) in
    omega (arith, c.loop-i.invariant.counts z, ap (times row_cmp z) all, times-append row_cmp z (c.loop-i.all.items ++ xs) ys, times-append row_cmp z c.loop-i.all.items xs)

use Rattle.std.proofs.Common.{◌≡◌, ◌∙◌, ◌==◌, if◌then◌else◌, sym, ap, ◌∷◌, [], ◌++◌, length, arith}
use Rattle.linked_map.proofs.Counting.{if_same, if_apart}
use Rattle.linked_map.proofs.Rings.{lone, first_inside, last_in_at, pushed_at}
use Rattle.linked_map.proofs.ring.Ring.push.Goals as goal
use Rattle.linked_map.proofs.ring.Ring.push.Goals.{then-len-eq0, else-len-eq0}

pub join-requires-clause-first : goal.join-requires-clause-first
join-requires-clause-first c =
    let links = c.self.inside.links.items in
    let n : c.len-len.result ≡ length links = omega (arith, c.len-len.ensures) in
    let put : c.push.new.self.items ≡ links ++ lone c.len-len.result ∷ [] = c.in_ok-push.ensures.items ∙ ap (λ ls. ls ++ lone c.len-len.result ∷ []) c.reserve_link.ensures in
    let first : c.if-len-eq0.first ≡ (if length links == 0 then length links else c.self.inside.latest) = elim c.if-len-eq0.branch [
      | then-len-eq0 w ↦ w.first-is ∙ n ∙ sym (if_same (length links) 0 (length links) c.self.inside.latest (sym n ∙ w.if-len-eq0.true))
      | else-len-eq0 w ↦ w.first-is ∙ sym (if_apart (length links) 0 (length links) c.self.inside.latest (λ e. w.if-len-eq0.false (n ∙ e)))
    ] in
    let is = first_inside links c.self.inside.latest c.self.invariant (lone c.len-len.result) in
    let grown = ap length put in
    omega (arith, first, is, grown)

pub join-requires-clause-last : goal.join-requires-clause-last
join-requires-clause-last c =
    let links = c.self.inside.links.items in
    let n : c.len-len.result ≡ length links = omega (arith, c.len-len.ensures) in
    let put : c.push.new.self.items ≡ links ++ lone c.len-len.result ∷ [] = c.in_ok-push.ensures.items ∙ ap (λ ls. ls ++ lone c.len-len.result ∷ []) c.reserve_link.ensures in
    let first : c.if-len-eq0.first ≡ (if length links == 0 then length links else c.self.inside.latest) = elim c.if-len-eq0.branch [
      | then-len-eq0 w ↦ w.first-is ∙ n ∙ sym (if_same (length links) 0 (length links) c.self.inside.latest (sym n ∙ w.if-len-eq0.true))
      | else-len-eq0 w ↦ w.first-is ∙ sym (if_apart (length links) 0 (length links) c.self.inside.latest (λ e. w.if-len-eq0.false (n ∙ e)))
    ] in
    last_in_at links c.self.inside.latest c.self.invariant c.len-len.result c.push.new.self.items c.if-len-eq0.first n put first

pub invariant_of-self-2 : goal.invariant_of-self-2
invariant_of-self-2 c =
    let links = c.self.inside.links.items in
    let n : c.len-len.result ≡ length links = omega (arith, c.len-len.ensures) in
    let put : c.push.new.self.items ≡ links ++ lone c.len-len.result ∷ [] = c.in_ok-push.ensures.items ∙ ap (λ ls. ls ++ lone c.len-len.result ∷ []) c.reserve_link.ensures in
    let first : c.if-len-eq0.first ≡ (if length links == 0 then length links else c.self.inside.latest) = elim c.if-len-eq0.branch [
      | then-len-eq0 w ↦ w.first-is ∙ n ∙ sym (if_same (length links) 0 (length links) c.self.inside.latest (sym n ∙ w.if-len-eq0.true))
      | else-len-eq0 w ↦ w.first-is ∙ sym (if_apart (length links) 0 (length links) c.self.inside.latest (λ e. w.if-len-eq0.false (n ∙ e)))
    ] in
    (pushed_at links c.self.inside.latest c.self.invariant c.len-len.result c.push.new.self.items c.join.new.links.items c.if-len-eq0.first n put first c.join.ensures (omega (arith, n, c.if-len.false))).ring

pub returns-clause-pushed : goal.returns-clause-pushed
returns-clause-pushed c =
    let links = c.self.inside.links.items in
    let n : c.len-len.result ≡ length links = omega (arith, c.len-len.ensures) in
    let put : c.push.new.self.items ≡ links ++ lone c.len-len.result ∷ [] = c.in_ok-push.ensures.items ∙ ap (λ ls. ls ++ lone c.len-len.result ∷ []) c.reserve_link.ensures in
    let first : c.if-len-eq0.first ≡ (if length links == 0 then length links else c.self.inside.latest) = elim c.if-len-eq0.branch [
      | then-len-eq0 w ↦ w.first-is ∙ n ∙ sym (if_same (length links) 0 (length links) c.self.inside.latest (sym n ∙ w.if-len-eq0.true))
      | else-len-eq0 w ↦ w.first-is ∙ sym (if_apart (length links) 0 (length links) c.self.inside.latest (λ e. w.if-len-eq0.false (n ∙ e)))
    ] in
    rw (← c.self.view_is) (pushed_at links c.self.inside.latest c.self.invariant c.len-len.result c.push.new.self.items c.join.new.links.items c.if-len-eq0.first n put first c.join.ensures (omega (arith, n, c.if-len.false))).order

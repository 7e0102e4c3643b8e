use Rattle.std.proofs.Common.{Bool, List, subst, sym}
use Rattle.row.specs.Bags.{Each}
use Rattle.model.specs.Legal.{IsOwn, IsPast, EachShard}
use Rattle.model.specs.Histories.{floor_at}
use Rattle.model.specs.Tables.{places_of}
use Rattle.model.specs.declared.place.Place.{Place}
use Rattle.model.specs.Items.{history_of}
use Rattle.plain.specs.Tells.{Tells}
use Rattle.plain.proofs.legal.allows_fence.Goals as goal

pub returns-then-not-are_past : goal.returns-then-not-are_past
returns-then-not-are_past c =
    let p = c.args.plan.now in
    let past = λ (own : List Place). EachShard p (λ i j. Each (IsPast p (floor_at c.args.fence.now.floors i j)) (places_of own)) in
    λ a. c.if-not-are_past.ensures (subst past (sym c.deref.ensures.value) a.past)

pub returns-then-not-branch : goal.returns-then-not-branch
returns-then-not-branch c =
    let p = c.args.plan.now in
    let past = λ (own : List Place). EachShard p (λ i j. Each (IsPast p (floor_at c.args.fence.now.floors i j)) (places_of own)) in
    let mine = λ (own : List Place). Each (IsOwn p (history_of c.args.items.now) c.args.fence.now.session) (places_of own) in
    let none = subst (λ (b : Bool). Tells b (mine c.deref-2.result.now)) c.if-not-branch.true c.in_ok-are_own.ensures in
    λ a. none (subst mine (sym c.deref-2.ensures.value) a.written)

pub returns : goal.returns
returns c =
    let p = c.args.plan.now in
    let past = λ (own : List Place). EachShard p (λ i j. Each (IsPast p (floor_at c.args.fence.now.floors i j)) (places_of own)) in
    let mine = λ (own : List Place). Each (IsOwn p (history_of c.args.items.now) c.args.fence.now.session) (places_of own) in
    let all = subst (λ (b : Bool). Tells b (mine c.deref-2.result.now)) c.if-not-branch.false c.in_ok-are_own.ensures in
    record {
      session = c.if-fence-sessions.false;
      within = c.if-not-are_within.ensures;
      floor = c.if-not-are_above.ensures;
      past = subst past c.deref.ensures.value c.if-not-are_past.ensures;
      written = subst mine c.deref-2.ensures.value all;
    }

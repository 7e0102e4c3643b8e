use Rattle.std.proofs.Common.{◌≡◌, Some, None, ◌∷◌, ◌++◌, ◌-◌, [], length, length-set, ap, sym, ◌∙◌, subst, rules}
use Rattle.std.proofs.lemmas.List.{length-replicate}
use Rattle.std.specs.List.{position}
use Rattle.packet.specs.Codes.{mark_of}
use Rattle.packet.specs.Leaves.{OthersWait}
use Rattle.packet.specs.Marks.{Gathering}
use Rattle.packet.proofs.Arrivals.{is_of, come_there, come_new, found, others_set, others_push, count_at}
use Rattle.packet.proofs.marks.gather.Goals as goal

pub returns-in-Some-clause-come : goal.returns-in-Some-clause-come
returns-in-Some-clause-come c =
    let at : position (is_of (mark_of c.args.marker)) c.args.waiting.now.items ≡ Some c.in-Some.at = search rules in
    come_there c.args.senders c.args.sender c.in-Some.at (mark_of c.args.marker) c.args.waiting.now.items c.index_mut.result.now c.arrive.new.self at c.index_mut.ensures.value c.arrive.ensures

pub returns-in-Some-clause-place : goal.returns-in-Some-clause-place
returns-in-Some-clause-place c =
    let gs = c.args.waiting.now.items in
    let at : position (is_of (mark_of c.args.marker)) gs ≡ Some c.in-Some.at = search rules in
    let f = found (mark_of c.args.marker) gs c.in-Some.at at in
    others_set c.args.senders c.in-Some.at gs c.arrive.new.self c.requires.waiting f.1
    (ap (λ (x : Gathering). length x.here) c.arrive.ensures ∙ length-set c.index_mut.result.now.here c.args.sender _ ∙ count_at c.args.senders c.in-Some.at gs c.index_mut.result.now c.requires.waiting f.1 c.index_mut.ensures.value)

pub returns-in_ok-push-in-None-clause-come : goal.returns-in_ok-push-in-None-clause-come
returns-in_ok-push-in-None-clause-come c =
    let none : position (is_of (mark_of c.args.marker)) c.args.waiting.now.items ≡ None = search rules in
    c.in_ok-push-in-None.ensures.items
    ∙ (ap (λ x. c.args.waiting.now.items ++ x ∷ []) c.in_ok-gathering-in-None.ensures ∙ come_new c.args.senders c.args.sender (mark_of c.args.marker) c.args.waiting.now.items none)

pub returns-in_ok-push-in-None-clause-place : goal.returns-in_ok-push-in-None-clause-place
returns-in_ok-push-in-None-clause-place c =
    let gs = c.args.waiting.now.items in
    let x = c.in_ok-gathering-in-None.gathering in
    let here = ap (λ (y : Gathering). length y.here) c.in_ok-gathering-in-None.ensures ∙ length-set _ c.args.sender _ ∙ length-replicate c.args.senders _ in
    let n : length gs ≡ c.len.result - 1 = search rules in
    subst (λ xs. OthersWait c.args.senders (c.len.result - 1) xs) (sym c.in_ok-push-in-None.ensures.items) (subst (λ k. OthersWait c.args.senders k (gs ++ x ∷ [])) n (others_push c.args.senders gs x c.requires.waiting here))

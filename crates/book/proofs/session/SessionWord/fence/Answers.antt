use Rattle.std.proofs.Common.{◌+◌, refl, subst, sym}
use Rattle.model.specs.Tables.{places_of}
use Rattle.model.proofs.Prefixes.{prefix_trans}
use Rattle.book.specs.Pages.{history_of}
use Rattle.book.specs.Sessions.{SessionView, IsEnded, IsSession}
use Rattle.book.proofs.Steps.{seen_more}
use Rattle.book.proofs.Sessions.{answered, fence_asked, fence_told, session_at, session_later}
use Rattle.book.proofs.session.SessionWord.fence.Goals as goal

pub add-requires-clause-ask : goal.add-requires-clause-ask
add-requires-clause-ask g c =
    let q = c.requires in
    let at = sym c.self.view_is in
    let is = sym c.cuts.view_is in
    let p = g.J.Naming.plan in
    let n = g.J.Naming.sessions in
    let x = session_later p n c.self.inside.seen.log c.learn.new.seen.log _ _ _ c.self.invariant.2 c.learn.ensures.grown in
    fence_asked p n c.self.inside.seen.log c.learn.new.seen.log c.cuts.inside.seen.log _ _ _ _ _ x c.learn.ensures.grown c.learn.ensures.others c.cuts.invariant.2 (rw (at, is) at q.floors) (rw is at q.past) (rw at at q.own)

pub returns-in_err-add-clause-others : goal.returns-in_err-add-clause-others
returns-in_err-add-clause-others g c = rw (← c.cuts.view_is) (prefix_trans _ (history_of c.learn.new.seen.log) _ (seen_more c.cuts.inside.seen.log c.learn.new.seen.log c.learn.ensures.others) c.add.ensures.grown)

pub returns-clause-others : goal.returns-clause-others
returns-clause-others g c =
    let grown = rw (sym c.self-2.view_is) at c.add.ensures.grown in
    rw (← c.cuts.view_is) (prefix_trans _ (history_of c.learn.new.seen.log) _ (seen_more c.cuts.inside.seen.log c.learn.new.seen.log c.learn.ensures.others) grown)

pub invariant_of-self-2 : goal.invariant_of-self-2
invariant_of-self-2 g c =
    let p = g.J.Naming.plan in
    let n = g.J.Naming.sessions in
    let x = session_later p n c.self.inside.seen.log c.learn.new.seen.log _ _ _ c.self.invariant.2 c.learn.ensures.grown in
    let i = c.self-2.invariant in
    let stays = rw (sym c.self-2.view_is) at c.add.ensures.stays in
    let done = rw (sym c.self-2.view_is) at c.in_ok-add.ensures.done in
    let ended = fence_told p n c.learn.new.seen.log c.self-2.inside.seen.log _ _ _ c.cuts.inside.floors _ x c.cuts.invariant.2.table (done _ refl) in
    (i.0, i.1, subst (λ (y : SessionView). IsSession p n (record y { answered = y.answered + 1; floors = c.cuts.inside.floors })) (sym stays) ended)

pub returns-clause-fenced : goal.returns-clause-fenced
returns-clause-fenced g c =
    let me = c.self.inside in
    let p = g.J.Naming.plan in
    let n = g.J.Naming.sessions in
    let stays = rw (sym c.self-2.view_is) at c.add.ensures.stays in
    let done = rw (sym c.self-2.view_is) at c.in_ok-add.ensures.done in
    let all = answered p n me.seen.log c.learn.new.seen.log c.self-2.inside.seen.log me.number me.answered me.floors c.cuts.inside.floors _ c.self.invariant.2 c.learn.ensures.grown (done _ refl) in
    rw (← c.self.view_is, ← c.cuts.view_is) (subst (λ (y : SessionView). IsEnded p (session_at me.number me.answered me.floors me.seen.log) (places_of c.args.own.now.items) c.cuts.inside.floors (record y { answered = y.answered + 1; floors = c.cuts.inside.floors })) (sym stays) all)

pub invariant_of-self : goal.invariant_of-self
invariant_of-self g c =
    let l = c.learn.ensures in
    (l.book, l.of, session_later g.J.Naming.plan g.J.Naming.sessions c.self.inside.seen.log c.learn.new.seen.log _ _ _ c.self.invariant.2 l.grown)

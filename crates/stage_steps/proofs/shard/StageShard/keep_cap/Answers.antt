use Rattle.std.proofs.Common.{◌≡◌, ◌<◌, ◌-◌, ◌+◌, suc, length, ap, sym, ◌∙◌, subst, arith}
use Rattle.std.proofs.lemmas.Bool.Decides.{nat_tests}
use Rattle.protocol.specs.StageSteps.{caps}
use Rattle.right_rows.specs.Rights.{keys_in}
use Rattle.stage_sides.specs.Sides.{are_filled}
use Rattle.stage_steps.specs.Outboxes.{AreEdges}
use Rattle.stage_steps.specs.Shards.{IsPut, Shard}
use Rattle.stage_steps.proofs.Caps.{put_kept, put_waiting, shrunk}
use Rattle.stage_steps.proofs.Puts.{after}
use Rattle.stage_steps.proofs.shard.StageShard.keep_cap.Goals as goal

pub returns-then-not-is_empty-clause-done : goal.returns-then-not-is_empty-clause-done
returns-then-not-is_empty-clause-done g c d put =
    let x : Shard = record { plan = c.self.inside.plan.now; shard = c.self.inside.shard; line = c.self.inside.line; rows = c.self.inside.rows; pending = c.self.inside.pending.items; marks = c.self.inside.marks } in
    let p = subst (λ (x : Shard). IsPut d c.args.out.now x) (sym c.self.view_is) put in
    let edges = subst (λ (x : Shard). AreEdges x.plan c.args.out.now) (sym c.self.view_is) c.requires.edges in
    let some : 0 < length x.pending = let e = c.if-not-is_empty.ensures in grind (arith, nat_tests) in
    subst (λ (x : Shard). IsPut (after d (caps d.stage)) c.args.out.now x) c.self.view_is (put_waiting x x d c.args.out.now c.args.out.now p edges some)

pub loop-gone-preserved : goal.loop-gone-preserved
loop-gone-preserved g c =
    let i = c.loop-gone.invariant in
    let e = c.in_ok-open_oldest.ensures in
    record {
      whole = e.whole;
      edges = subst (λ p. AreEdges p c.open_oldest.new.out) (ap (λ (x : Shard). x.plan) i.others) c.open_oldest.ensures.edges;
      others = c.open_oldest.ensures.others ∙ ap (λ (x : Shard). record x { rows = c.open_oldest.new.self.rows }) i.others;
      put = λ d put. subst (λ n. IsPut (shrunk n d) c.open_oldest.new.out c.open_oldest.new.self) (let next : suc c.loop-gone._gone ≡ c.loop-gone._gone + 1 = omega arith in next) (e.done (shrunk c.loop-gone._gone d) (i.put d put));
    }

pub returns-clause-done : goal.returns-clause-done
returns-clause-done g c d put =
    let i = c.loop-gone.invariant in
    let x : Shard = record { plan = c.self.inside.plan.now; shard = c.self.inside.shard; line = c.self.inside.line; rows = c.self.inside.rows; pending = c.self.inside.pending.items; marks = c.self.inside.marks } in
    let none : length x.pending ≡ 0 = let e = c.if-not-is_empty.ensures in grind (arith, nat_tests) in
    let p = subst (λ (x : Shard). IsPut d c.args.out.now x) (sym c.self.view_is) put in
    let edges = subst (λ p. AreEdges p c.loop-gone.out) (sym (ap (λ (x : Shard). x.plan) i.others)) i.edges in
    let count : c.loop-gone._gone ≡ length (are_filled (keys_in x.rows.right)) - x.plan.cap = omega (arith, c.loop-gone-test.false, c.loop-gone.auto._gone-end, c.saturating_sub-excess.ensures, c.filled.ensures, c.cap.ensures) in
    put_kept x c.loop-gone.self d c.args.out.now c.loop-gone.out p c.loop-gone._gone count none edges (i.put d put)

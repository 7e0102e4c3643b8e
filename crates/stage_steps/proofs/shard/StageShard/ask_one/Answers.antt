use Rattle.std.proofs.Common.{refl, ap, sym, ◌∙◌, ◌∷◌, [], cond, subst}
use Rattle.std.proofs.lemmas.Result.{on_ok_weaker}
use Rattle.row.specs.Cells.{datum_of}
use Rattle.protocol.specs.StageSteps.{append_each, asks_for}
use Rattle.packet.specs.Keys.{begin_at}
use Rattle.packet.specs.Outboxes.{packets_on}
use Rattle.stage_steps.specs.Outboxes.{AreEdges}
use Rattle.stage_steps.specs.Shards.{IsPut, IsWhole, Shard}
use Rattle.stage_steps.proofs.Begins.{put_begun, put_unbegun}
use Rattle.stage_steps.proofs.Wholes.{still_whole}
use Rattle.stage_steps.proofs.shard.StageShard.ask_one.Goals as goal

pub returns-then-not-branch-clause-whole : goal.returns-then-not-branch-clause-whole
returns-then-not-branch-clause-whole g c =
    let x : Shard = record { plan = c.self.inside.plan.now; shard = c.self.inside.shard; line = c.self.inside.line; rows = c.self.inside.rows; pending = c.self.inside.pending.items; marks = c.self.inside.marks } in
    let e = c.in_ok-begin.ensures in
    still_whole x c.begin.new.self (subst IsWhole (sym c.self.view_is) c.requires.whole) e.others e.sources (begin_at x.rows.right.sources (datum_of c.args.key.now)) e.keys e.truth

pub returns-then-not-branch-clause-done : goal.returns-then-not-branch-clause-done
returns-then-not-branch-clause-done g c d put =
    let x : Shard = record { plan = c.self.inside.plan.now; shard = c.self.inside.shard; line = c.self.inside.line; rows = c.self.inside.rows; pending = c.self.inside.pending.items; marks = c.self.inside.marks } in
    let e = c.in_ok-begin.ensures in
    let p = subst (λ (x : Shard). IsPut d c.args.out.now x) (sym c.self.view_is) put in
    let edges = subst (λ (x : Shard). AreEdges x.plan c.args.out.now) (sym c.self.view_is) c.requires.edges in
    put_unbegun x c.begin.new.self (datum_of c.args.key.now) c.in_ok-begin.field-0 d c.args.out.now c.args.out.now p (subst IsWhole (sym c.self.view_is) c.requires.whole) edges e.keys e.began c.if-not-branch.true refl

pub returns-clause-whole : goal.returns-clause-whole
returns-clause-whole g c =
    let x : Shard = record { plan = c.self.inside.plan.now; shard = c.self.inside.shard; line = c.self.inside.line; rows = c.self.inside.rows; pending = c.self.inside.pending.items; marks = c.self.inside.marks } in
    let e = c.in_ok-begin.ensures in
    let whole = still_whole x c.begin.new.self (subst IsWhole (sym c.self.view_is) c.requires.whole) e.others e.sources (begin_at x.rows.right.sources (datum_of c.args.key.now)) e.keys e.truth in
    on_ok_weaker c.ask_sources.result (λ t. whole) c.ask_sources.ensures.asked

pub returns-clause-done : goal.returns-clause-done
returns-clause-done g c d put =
    let x : Shard = record { plan = c.self.inside.plan.now; shard = c.self.inside.shard; line = c.self.inside.line; rows = c.self.inside.rows; pending = c.self.inside.pending.items; marks = c.self.inside.marks } in
    let e = c.in_ok-begin.ensures in
    let p = subst (λ (x : Shard). IsPut d c.args.out.now x) (sym c.self.view_is) put in
    let edges = subst (λ (x : Shard). AreEdges x.plan c.args.out.now) (sym c.self.view_is) c.requires.edges in
    on_ok_weaker c.ask_sources.result (λ asked. put_begun x c.begin.new.self (datum_of c.args.key.now) c.in_ok-begin.field-0 d c.args.out.now c.ask_sources.new.out p (subst IsWhole (sym c.self.view_is) c.requires.whole) edges e.keys e.began c.ask_sources.ensures.packets (asked ∙ ap (λ b. append_each (packets_on c.args.out.now.requests) (asks_for x.plan (cond b (datum_of c.args.key.now ∷ []) []))) (sym c.if-not-branch.false))) c.ask_sources.ensures.asked

use Rattle.std.proofs.Common.{◌≡◌, not, true, false, ap, sym, ◌∙◌, subst}
use Rattle.std.specs.List.{list_all}
use Rattle.std.proofs.lemmas.Result.{on_ok_weaker}
use Rattle.row.specs.Cells.{datum_of}
use Rattle.packet.specs.Readers.{view_of}
use Rattle.protocol.specs.Stages.{behind, knows}
use Rattle.protocol.specs.StageSteps.{asks, look}
use Rattle.right_rows.specs.Rights.{keys_in}
use Rattle.stage_sides.specs.Held.{stage_keys_of}
use Rattle.stage_sides.specs.Sides.{is_open}
use Rattle.stage_steps.specs.Outboxes.{AreEdges}
use Rattle.stage_steps.specs.Shards.{HasBegun, IsPut, IsWhole, Shard, given, stage_of}
use Rattle.stage_steps.proofs.Puts.{after}
use Rattle.stage_steps.proofs.Looked.{behind_is}
use Rattle.stage_steps.proofs.Untold.{knows_is}
use Rattle.stage_steps.proofs.Waiting.{all_shut, put_known, put_unasked, put_waits}
use Rattle.stage_steps.proofs.shard.StageShard.answer_or_wait.Goals as goal

pub give-requires-clause-known : goal.give-requires-clause-known
give-requires-clause-known g c =
    let x : Shard = record { plan = c.self.inside.plan.now; shard = c.self.inside.shard; line = c.self.inside.line; rows = c.self.inside.rows; pending = c.self.inside.pending.items; marks = c.self.inside.marks } in
    let own = behind_is x c.view_of-view.result (view_of c.args.ask.tag) (datum_of c.key.result.now) c.args.ask.key (subst IsWhole (sym c.self.view_is) c.requires.whole) c.keeps_order.ensures.lefts (c.view_of-view.ensures ∙ ap view_of c.tag.ensures) c.key.ensures in
    let keys = stage_keys_of x.rows c.view_of-view.result (datum_of c.key.result.now) in
    let known : list_all (knows (keys_in x.rows.right)) keys ≡ true = (λ i. list_all (λ k. sym (c.keeps_order.ensures.known k ∙ knows_is (keys_in x.rows.right) k) i) keys) ∙ (sym c.knows_behind.ensures ∙ c.if-knows_behind.true) in
    subst (λ (y : Shard). list_all (knows (keys_in y.rows.right)) (behind (stage_of y) (view_of c.args.ask.tag) c.args.ask.key) ≡ true) c.self.view_is (subst (λ ks. list_all (knows (keys_in x.rows.right)) ks ≡ true) own known)

pub returns-then-knows_behind-clause-done : goal.returns-then-knows_behind-clause-done
returns-then-knows_behind-clause-done g c d put =
    let x : Shard = record { plan = c.self.inside.plan.now; shard = c.self.inside.shard; line = c.self.inside.line; rows = c.self.inside.rows; pending = c.self.inside.pending.items; marks = c.self.inside.marks } in
    let own = behind_is x c.view_of-view.result (view_of c.args.ask.tag) (datum_of c.key.result.now) c.args.ask.key (subst IsWhole (sym c.self.view_is) c.requires.whole) c.keeps_order.ensures.lefts (c.view_of-view.ensures ∙ ap view_of c.tag.ensures) c.key.ensures in
    let keys = stage_keys_of x.rows c.view_of-view.result (datum_of c.key.result.now) in
    let known : list_all (knows (keys_in x.rows.right)) keys ≡ true = (λ i. list_all (λ k. sym (c.keeps_order.ensures.known k ∙ knows_is (keys_in x.rows.right) k) i) keys) ∙ (sym c.knows_behind.ensures ∙ c.if-knows_behind.true) in
    let shut = all_shut (keys_in x.rows.right) keys known in
    let p = subst (λ (x : Shard). IsPut d c.args.out.now x) (sym c.self.view_is) put in
    let edges = subst (λ (x : Shard). AreEdges x.plan c.args.out.now) (sym c.self.view_is) c.requires.edges in
    on_ok_weaker c.give.result
    (λ told. subst (IsPut (after d (look d.stage c.args.ask)) c.give.new.out) c.self.view_is (put_known x c.args.ask d c.args.out.now keys p edges own shut c.give.new.out known (subst (IsPut (after (after d (asks d.stage keys)) (given (asks d.stage keys).stage c.args.ask)) c.give.new.out) (sym c.self.view_is) told)))
    (c.give.ensures.done (after d (asks d.stage keys)) (subst (IsPut (after d (asks d.stage keys)) c.args.out.now) c.self.view_is (put_unasked x c.args.ask d c.args.out.now keys p edges own shut)))

pub returns-clause-done : goal.returns-clause-done
returns-clause-done g c d put =
    let x : Shard = record { plan = c.self.inside.plan.now; shard = c.self.inside.shard; line = c.self.inside.line; rows = c.self.inside.rows; pending = c.self.inside.pending.items; marks = c.self.inside.marks } in
    let own = behind_is x c.view_of-view.result (view_of c.args.ask.tag) (datum_of c.key.result.now) c.args.ask.key (subst IsWhole (sym c.self.view_is) c.requires.whole) c.keeps_order.ensures.lefts (c.view_of-view.ensures ∙ ap view_of c.tag.ensures) c.key.ensures in
    let keys = stage_keys_of x.rows c.view_of-view.result (datum_of c.key.result.now) in
    let lacks : list_all (knows (keys_in x.rows.right)) keys ≡ false = (λ i. list_all (λ k. sym (c.keeps_order.ensures.known k ∙ knows_is (keys_in x.rows.right) k) i) keys) ∙ (sym c.knows_behind.ensures ∙ c.if-knows_behind.false) in
    let begun = subst (λ (y : Shard). HasBegun (stage_of y) c.args.ask) (sym c.self.view_is) c.requires.begun in
    let shut = subst (λ ks. list_all (λ k. not (is_open k (keys_in x.rows.right))) ks ≡ true) (sym own) begun in
    put_waits x c.args.ask d c.args.out.now keys (subst (λ (x : Shard). IsPut d c.args.out.now x) (sym c.self.view_is) put) (subst (λ (x : Shard). AreEdges x.plan c.args.out.now) (sym c.self.view_is) c.requires.edges) own shut c.push.new.self.items lacks c.in_ok-push.ensures.items

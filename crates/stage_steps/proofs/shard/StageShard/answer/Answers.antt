use Rattle.std.proofs.Common.{◌≡◌, ◌<◌, true, false, length, map, ap, sym, ◌∙◌, subst}
use Rattle.std.specs.List.{list_all}
use Rattle.std.proofs.lemmas.Result.{on_ok_weaker}
use Rattle.row.specs.Cells.{datum_of}
use Rattle.ops.specs.SideRows.{is_here}
use Rattle.packet.specs.Readers.{view_of}
use Rattle.protocol.specs.Stages.{knows}
use Rattle.right_rows.specs.Rights.{keys_in}
use Rattle.stage_steps.specs.Outboxes.{AreEdges}
use Rattle.stage_steps.specs.Shards.{IsPut, IsWhole, Shard}
use Rattle.stage_steps.proofs.Gives.{all_known, later_whole, put_answer, put_later}
use Rattle.stage_steps.proofs.shard.StageShard.answer.Goals as goal

pub give-requires-clause-known : goal.give-requires-clause-known
give-requires-clause-known g c =
    let right = c.self.inside.rows.right in
    let all : list_all (knows (keys_in right)) (map datum_of c.args.needed.now) ≡ true = sym (all_known (is_here right) (keys_in right) c.args.needed.now c.keeps_order.ensures.known) ∙ (sym c.knows_all.ensures ∙ c.if-knows_all.true) in
    subst (λ ks. list_all (knows (keys_in c.args.self.now.rows.right)) ks ≡ true) c.requires.needed (subst (λ o. list_all (knows o) (map datum_of c.args.needed.now) ≡ true) (ap (λ (x : Shard). keys_in x.rows.right) c.self.view_is) all)

pub returns-then-knows_all-clause-done : goal.returns-then-knows_all-clause-done
returns-then-knows_all-clause-done g c d put =
    let right = c.self.inside.rows.right in
    let all : list_all (knows (keys_in right)) (map datum_of c.args.needed.now) ≡ true = sym (all_known (is_here right) (keys_in right) c.args.needed.now c.keeps_order.ensures.known) ∙ (sym c.knows_all.ensures ∙ c.if-knows_all.true) in
    let now = subst (λ o. list_all (knows o) (map datum_of c.args.needed.now) ≡ true) (ap (λ (x : Shard). keys_in x.rows.right) c.self.view_is) all in
    on_ok_weaker c.give.result (λ is. put_answer c.args.self.now c.args.ask d c.args.out.now c.give.new.out (map datum_of c.args.needed.now) put now is) (c.give.ensures.done d put)

pub returns-clause-whole : goal.returns-clause-whole
returns-clause-whole g c =
    let x : Shard = record { plan = c.self.inside.plan.now; shard = c.self.inside.shard; line = c.self.inside.line; rows = c.self.inside.rows; pending = c.self.inside.pending.items; marks = c.self.inside.marks } in
    later_whole x c.args.ask c.push.new.self.items (subst IsWhole (sym c.self.view_is) c.requires.whole) (subst (λ (x : Shard). view_of c.args.ask.tag < length x.plan.views) (sym c.self.view_is) c.requires.there) c.in_ok-push.ensures.items

pub returns-clause-done : goal.returns-clause-done
returns-clause-done g c d put =
    let x : Shard = record { plan = c.self.inside.plan.now; shard = c.self.inside.shard; line = c.self.inside.line; rows = c.self.inside.rows; pending = c.self.inside.pending.items; marks = c.self.inside.marks } in
    let p = subst (λ (x : Shard). IsPut d c.args.out.now x) (sym c.self.view_is) put in
    let edges = subst (λ (x : Shard). AreEdges x.plan c.args.out.now) (sym c.self.view_is) c.requires.edges in
    let all : list_all (knows (keys_in x.rows.right)) (map datum_of c.args.needed.now) ≡ false = sym (all_known (is_here x.rows.right) (keys_in x.rows.right) c.args.needed.now c.keeps_order.ensures.known) ∙ (sym c.knows_all.ensures ∙ c.if-knows_all.false) in
    put_later x c.args.ask c.push.new.self.items d c.args.out.now (map datum_of c.args.needed.now) p edges all c.in_ok-push.ensures.items

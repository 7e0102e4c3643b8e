use Rattle.std.proofs.Common.{sym, ◌∙◌, subst}
use Rattle.row.specs.Cells.{datum_of}
use Rattle.packet.specs.Keys.{open_at}
use Rattle.stage_steps.specs.Outboxes.{AreEdges}
use Rattle.stage_steps.specs.Shards.{IsPut, IsWhole, Shard}
use Rattle.stage_steps.proofs.Goes.{put_evicted, put_stays}
use Rattle.stage_steps.proofs.Wholes.{still_whole}
use Rattle.stage_steps.proofs.shard.StageShard.evict.Goals as goal

pub tell_gone-requires-clause-whole : goal.tell_gone-requires-clause-whole
tell_gone-requires-clause-whole g c =
    let x : Shard = record { plan = c.self.inside.plan.now; shard = c.self.inside.shard; line = c.self.inside.line; rows = c.self.inside.rows; pending = c.self.inside.pending.items; marks = c.self.inside.marks } in
    let e = c.open.ensures in
    still_whole x c.open.new.self (subst IsWhole (sym c.self.view_is) c.requires.whole) e.others e.sources (open_at (datum_of c.args.key.now)) e.keys (λ k parts count h. e.truth k parts h)

pub returns-in_ok-tell_gone-clause-whole : goal.returns-in_ok-tell_gone-clause-whole
returns-in_ok-tell_gone-clause-whole g c =
    let x : Shard = record { plan = c.self.inside.plan.now; shard = c.self.inside.shard; line = c.self.inside.line; rows = c.self.inside.rows; pending = c.self.inside.pending.items; marks = c.self.inside.marks } in
    let e = c.open.ensures in
    still_whole x c.open.new.self (subst IsWhole (sym c.self.view_is) c.requires.whole) e.others e.sources (open_at (datum_of c.args.key.now)) e.keys (λ k parts count h. e.truth k parts h)

pub returns-in_ok-tell_gone-clause-done : goal.returns-in_ok-tell_gone-clause-done
returns-in_ok-tell_gone-clause-done g c d put =
    let x : Shard = record { plan = c.self.inside.plan.now; shard = c.self.inside.shard; line = c.self.inside.line; rows = c.self.inside.rows; pending = c.self.inside.pending.items; marks = c.self.inside.marks } in
    let e = c.open.ensures in
    let p = subst (λ (x : Shard). IsPut d c.args.out.now x) (sym c.self.view_is) put in
    let edges = subst (λ (x : Shard). AreEdges x.plan c.args.out.now) (sym c.self.view_is) c.requires.edges in
    put_evicted x c.open.new.self (datum_of c.args.key.now) d c.args.out.now c.tell_gone.new.out p e.others edges e.keys c.in_ok-tell_gone.ensures.told c.tell_gone.ensures.requests (sym e.was ∙ c.if-open.true)

pub returns-else-open-clause-whole : goal.returns-else-open-clause-whole
returns-else-open-clause-whole g c =
    let x : Shard = record { plan = c.self.inside.plan.now; shard = c.self.inside.shard; line = c.self.inside.line; rows = c.self.inside.rows; pending = c.self.inside.pending.items; marks = c.self.inside.marks } in
    let e = c.open.ensures in
    still_whole x c.open.new.self (subst IsWhole (sym c.self.view_is) c.requires.whole) e.others e.sources (open_at (datum_of c.args.key.now)) e.keys (λ k parts count h. e.truth k parts h)

pub returns-else-open-clause-done : goal.returns-else-open-clause-done
returns-else-open-clause-done g c d put =
    let x : Shard = record { plan = c.self.inside.plan.now; shard = c.self.inside.shard; line = c.self.inside.line; rows = c.self.inside.rows; pending = c.self.inside.pending.items; marks = c.self.inside.marks } in
    let e = c.open.ensures in
    let p = subst (λ (x : Shard). IsPut d c.args.out.now x) (sym c.self.view_is) put in
    let edges = subst (λ (x : Shard). AreEdges x.plan c.args.out.now) (sym c.self.view_is) c.requires.edges in
    put_stays x c.open.new.self (datum_of c.args.key.now) d c.args.out.now p edges e.keys (c.keeps_order.ensures.known (datum_of c.args.key.now)) (sym e.was ∙ c.if-open.false)

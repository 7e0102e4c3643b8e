use Rattle.std.proofs.Common.{sym, subst}
use Rattle.std.proofs.lemmas.Result.{on_ok_weaker}
use Rattle.row.specs.Cells.{datum_of}
use Rattle.packet.specs.Keys.{open_at}
use Rattle.stage_steps.specs.Outboxes.{AreEdges}
use Rattle.stage_steps.specs.Shards.{IsPut, IsWhole, Shard}
use Rattle.stage_steps.proofs.Goes.{put_none, put_oldest}
use Rattle.stage_steps.proofs.Wholes.{still_whole}
use Rattle.stage_steps.proofs.shard.StageShard.open_oldest.Goals as goal

pub tell_gone-requires-clause-whole : goal.tell_gone-requires-clause-whole
tell_gone-requires-clause-whole g c =
    let x : Shard = record { plan = c.self.inside.plan.now; shard = c.self.inside.shard; line = c.self.inside.line; rows = c.self.inside.rows; pending = c.self.inside.pending.items; marks = c.self.inside.marks } in
    let e = c.in-Some.ensures in
    still_whole x c.open_oldest.new.self (subst IsWhole (sym c.self.view_is) c.requires.whole) e.others e.sources (open_at (datum_of c.in-Some.key)) e.keys (λ k parts count h. e.truth k parts h)

pub returns-in-Some-clause-whole : goal.returns-in-Some-clause-whole
returns-in-Some-clause-whole g c =
    let x : Shard = record { plan = c.self.inside.plan.now; shard = c.self.inside.shard; line = c.self.inside.line; rows = c.self.inside.rows; pending = c.self.inside.pending.items; marks = c.self.inside.marks } in
    let e = c.in-Some.ensures in
    let whole = still_whole x c.open_oldest.new.self (subst IsWhole (sym c.self.view_is) c.requires.whole) e.others e.sources (open_at (datum_of c.in-Some.key)) e.keys (λ k parts count h. e.truth k parts h) in
    on_ok_weaker c.tell_gone.result (λ t. whole) c.tell_gone.ensures.told

pub returns-in-Some-clause-done : goal.returns-in-Some-clause-done
returns-in-Some-clause-done g c d put =
    let x : Shard = record { plan = c.self.inside.plan.now; shard = c.self.inside.shard; line = c.self.inside.line; rows = c.self.inside.rows; pending = c.self.inside.pending.items; marks = c.self.inside.marks } in
    let e = c.in-Some.ensures in
    let p = subst (λ (x : Shard). IsPut d c.args.out.now x) (sym c.self.view_is) put in
    let edges = subst (λ (x : Shard). AreEdges x.plan c.args.out.now) (sym c.self.view_is) c.requires.edges in
    on_ok_weaker c.tell_gone.result (λ told. put_oldest x c.open_oldest.new.self (datum_of c.in-Some.key) d c.args.out.now c.tell_gone.new.out p e.others edges e.keys told c.tell_gone.ensures.requests e.key) c.tell_gone.ensures.told

pub returns-in-None-clause-done : goal.returns-in-None-clause-done
returns-in-None-clause-done g c d put =
    let x : Shard = record { plan = c.self.inside.plan.now; shard = c.self.inside.shard; line = c.self.inside.line; rows = c.self.inside.rows; pending = c.self.inside.pending.items; marks = c.self.inside.marks } in
    let p = subst (λ (x : Shard). IsPut d c.args.out.now x) (sym c.self.view_is) put in
    let edges = subst (λ (x : Shard). AreEdges x.plan c.args.out.now) (sym c.self.view_is) c.requires.edges in
    put_none x c.open_oldest.new.self d c.args.out.now p edges c.in-None.ensures.none c.in-None.ensures.key

use Rattle.std.proofs.Common.{◌∷◌, [], refl, ap, ◌∙◌, sym, subst}
use Rattle.std.proofs.lemmas.Result.{on_ok_weaker}
use Rattle.packet.specs.Codes.{mark_of, marks_in}
use Rattle.packet.specs.Marks.{MarksView}
use Rattle.stage_steps.specs.Outboxes.{AreEdges}
use Rattle.stage_steps.specs.Shards.{IsPut, IsWhole, Shard}
use Rattle.stage_steps.proofs.Marked.{marked_whole, put_marks, put_no_marks}
use Rattle.stage_steps.proofs.shard.StageShard.take_marker.Goals as goal

pub tell_marker-requires-clause-whole : goal.tell_marker-requires-clause-whole
tell_marker-requires-clause-whole g c =
    let x : Shard = record { plan = c.self.inside.plan.now; shard = c.self.inside.shard; line = c.self.inside.line; rows = c.self.inside.rows; pending = c.self.inside.pending.items; marks = c.self.inside.marks } in
    marked_whole x c.come.new.self (subst IsWhole (sym c.self.view_is) c.requires.whole) (ap (λ (k : MarksView). k.senders) c.in_ok-come.ensures.waiting)

pub returns-in-None-clause-whole : goal.returns-in-None-clause-whole
returns-in-None-clause-whole g c =
    let x : Shard = record { plan = c.self.inside.plan.now; shard = c.self.inside.shard; line = c.self.inside.line; rows = c.self.inside.rows; pending = c.self.inside.pending.items; marks = c.self.inside.marks } in
    marked_whole x c.come.new.self (subst IsWhole (sym c.self.view_is) c.requires.whole) (ap (λ (k : MarksView). k.senders) c.in_ok-come.ensures.waiting)

pub returns-in-None-clause-done : goal.returns-in-None-clause-done
returns-in-None-clause-done g c d put =
    let x : Shard = record { plan = c.self.inside.plan.now; shard = c.self.inside.shard; line = c.self.inside.line; rows = c.self.inside.rows; pending = c.self.inside.pending.items; marks = c.self.inside.marks } in
    let p = subst (λ (x : Shard). IsPut d c.args.out.now x) (sym c.self.view_is) put in
    let edges = subst (λ (x : Shard). AreEdges x.plan c.args.out.now) (sym c.self.view_is) c.requires.edges in
    put_no_marks x c.args.source (mark_of c.args.marker) c.come.new.self (subst IsWhole (sym c.self.view_is) c.requires.whole) d c.args.out.now c.args.out.now p edges c.in_ok-come.ensures.waiting (sym (ap marks_in c.in-None.is) ∙ c.in_ok-come.ensures.complete) refl

pub returns-in-Some-clause-whole : goal.returns-in-Some-clause-whole
returns-in-Some-clause-whole g c =
    let x : Shard = record { plan = c.self.inside.plan.now; shard = c.self.inside.shard; line = c.self.inside.line; rows = c.self.inside.rows; pending = c.self.inside.pending.items; marks = c.self.inside.marks } in
    let whole = marked_whole x c.come.new.self (subst IsWhole (sym c.self.view_is) c.requires.whole) (ap (λ (k : MarksView). k.senders) c.in_ok-come.ensures.waiting) in
    on_ok_weaker c.tell_marker.result (λ t. whole) c.tell_marker.ensures.told

pub returns-in-Some-clause-done : goal.returns-in-Some-clause-done
returns-in-Some-clause-done g c d put =
    let x : Shard = record { plan = c.self.inside.plan.now; shard = c.self.inside.shard; line = c.self.inside.line; rows = c.self.inside.rows; pending = c.self.inside.pending.items; marks = c.self.inside.marks } in
    let p = subst (λ (x : Shard). IsPut d c.args.out.now x) (sym c.self.view_is) put in
    let edges = subst (λ (x : Shard). AreEdges x.plan c.args.out.now) (sym c.self.view_is) c.requires.edges in
    on_ok_weaker c.tell_marker.result
    (λ told.
    put_marks x c.args.source (mark_of c.args.marker) c.come.new.self (subst IsWhole (sym c.self.view_is) c.requires.whole) d c.args.out.now c.tell_marker.new.out p edges c.in_ok-come.ensures.waiting (mark_of c.in-Some.marker ∷ []) (sym (ap marks_in c.in-Some.is) ∙ c.in_ok-come.ensures.complete) told c.tell_marker.ensures.requests)
    c.tell_marker.ensures.told

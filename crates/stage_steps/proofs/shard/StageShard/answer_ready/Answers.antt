use Rattle.std.proofs.Common.{◌≡◌, ◌<◌, ◌∷◌, ◌++◌, [], length, append_assoc, ap, sym, ◌∙◌, subst}
use Rattle.std.proofs.lemmas.List.{append-nil}
use Rattle.row.specs.Bags.{Each}
use Rattle.packet.proofs.Sends.{none_left}
use Rattle.packet.specs.Messages.{Ask}
use Rattle.packet.specs.Readers.{view_of}
use Rattle.protocol.specs.Stages.{Done}
use Rattle.stage_steps.specs.Outboxes.{AreEdges}
use Rattle.stage_steps.specs.Shards.{HasBegun, IsPut, IsWhole, Shard, stage_of}
use Rattle.stage_steps.proofs.Looked.{looked, looked_more, none_waiting, put_looked, put_waiting_none, waiting_none}
use Rattle.stage_steps.proofs.shard.StageShard.answer_ready.Goals as goal

pub loop-ask-init : goal.loop-ask-init
loop-ask-init g c =
    let x : Shard = record { plan = c.self.inside.plan.now; shard = c.self.inside.shard; line = c.self.inside.line; rows = c.self.inside.rows; pending = c.self.inside.pending.items; marks = c.self.inside.marks } in
    let whole = subst IsWhole (sym c.self.view_is) c.requires.whole in
    let none : c.replace-pending.new.dest.items ≡ [] = ap (λ v. v.items) c.replace-pending.ensures.after ∙ c.new.ensures.items in
    let all : c.into_iter-ask-iterator.result.rest.items ≡ c.self.inside.pending.items = c.into_iter-ask-iterator.ensures.into_iter_gives.0 ∙ ap (λ v. v.items) c.replace-pending.ensures.value in
    record {
      whole = subst (λ as_. IsWhole (record x { pending = as_ })) (sym none) (none_waiting x whole);
      edges = c.requires.edges;
      same = record { plan = ap (λ (x : Shard). x.plan) c.self.view_is; shard = ap (λ (x : Shard). x.shard) c.self.view_is };
      rest = subst (λ as_. Each (λ (a : Ask). view_of a.tag < length c.args.self.now.plan.views) as_) (sym (all ∙ ap (λ (x : Shard). x.pending) c.self.view_is)) c.requires.whole.pending;
      others = ap (λ (x : Shard). record x { pending = c.replace-pending.new.dest.items }) c.self.view_is;
      begun = subst (λ as_. Each (HasBegun (stage_of c.args.self.now)) as_) (sym (all ∙ ap (λ (x : Shard). x.pending) c.self.view_is)) c.requires.begun;
      done = [];
      whole_list = all ∙ ap (λ (x : Shard). x.pending) c.self.view_is;
      put = λ d put. subst (λ as_. IsPut (waiting_none d) c.args.out.now (record x { pending = as_ })) (sym none) (put_waiting_none d c.args.out.now x (subst (λ (x : Shard). IsPut d c.args.out.now x) (sym c.self.view_is) put));
    }

pub answer_or_wait-requires-clause-begun : goal.answer_or_wait-requires-clause-begun
answer_or_wait-requires-clause-begun g c =
    let i = c.loop-ask.invariant in
    subst (λ (x : Shard). HasBegun (stage_of x) c.in-Some.ask) (sym i.others) (subst (λ as_. Each (HasBegun (stage_of c.args.self.now)) as_) c.in-Some.ensures.steps.0 i.begun).0

pub loop-ask-preserved : goal.loop-ask-preserved
loop-ask-preserved g c =
    let i = c.loop-ask.invariant in
    let e = c.in_ok-answer_or_wait.ensures in
    let whole = ap (λ l. i.done ++ l) (sym c.in-Some.ensures.steps.0) ∙ i.whole_list in
    record {
      whole = e.whole;
      edges = subst (λ p. AreEdges p c.answer_or_wait.new.out) i.same.plan c.answer_or_wait.ensures.edges;
      same = record { plan = c.answer_or_wait.ensures.same.plan ∙ i.same.plan; shard = c.answer_or_wait.ensures.same.shard ∙ i.same.shard };
      rest = (subst (λ as_. Each (λ (a : Ask). view_of a.tag < length c.args.self.now.plan.views) as_) c.in-Some.ensures.steps.0 i.rest).1;
      others = c.answer_or_wait.ensures.others ∙ ap (λ (x : Shard). record x { pending = c.answer_or_wait.new.self.pending }) i.others;
      begun = (subst (λ as_. Each (HasBegun (stage_of c.args.self.now)) as_) c.in-Some.ensures.steps.0 i.begun).1;
      done = i.done ++ c.in-Some.ask ∷ [];
      whole_list = append_assoc i.done (c.in-Some.ask ∷ []) c.next.new.self.rest.items ∙ whole;
      put = λ d put. subst (λ (d : Done). IsPut d c.answer_or_wait.new.out c.answer_or_wait.new.self) (sym (looked_more i.done c.in-Some.ask (waiting_none d))) (e.done (looked i.done (waiting_none d)) (i.put d put));
    }

pub returns-clause-done : goal.returns-clause-done
returns-clause-done g c d put =
    let i = c.loop-ask.invariant in
    let none = none_left c.loop-ask.ask-iterator.rest.items (sym (c.loop-ask.ask-iterator.rest.ok.0) ∙ c.in-None.ensures.steps.0) in
    let all = sym (append-nil i.done) ∙ (ap (λ l. i.done ++ l) (sym none) ∙ i.whole_list) in
    let edges = subst (λ p. AreEdges p c.loop-ask.out) (sym i.same.plan) i.edges in
    put_looked d c.args.out.now c.loop-ask.out c.args.self.now c.loop-ask.self i.done put all edges (i.put d put)

use Rattle.std.proofs.Common.{◌∙◌, ◌++◌, ◌∷◌, [], length, length-set, ap, subst}
use Rattle.model.specs.Entries.{change_of}
use Rattle.model.specs.Logs.{Change}
use Rattle.base.specs.Shards.{Shard, IsAt}
use Rattle.base.proofs.Fronts.{same_refusal}
use Rattle.packet.specs.Outboxes.{OutboxView}
use Rattle.packet.proofs.Sends.{same_count, still_clear}
use Rattle.base_domain.proofs.Accepts.{over_shard, allows, truth_next, parts_true, parts_count, told_is, accepted_as, done_told, memory_told, edges_told, at_room}
use Rattle.base_domain.proofs.base_domain.BaseDomain.accept.Goals as goal

pub decline-requires-clause-clear : goal.decline-requires-clause-clear
decline-requires-clause-clear g c = still_clear _ _ c.ready_for.ensures.packets c.requires.ready.clear.packets

pub append-requires : goal.append-requires
append-requires g c =
    let free = rw (← c.self.view_is) at c.requires.free in
    let of = rw (← c.self.view_is) at c.requires.of in
    let rises = rw (← c.self.view_is) at c.requires.rises in
    allows _ _ _ _ c.self.inside.shard c.self.inside.next.items c.self.invariant _ _ _ of rises free

pub commit-requires-clause-lawful : goal.commit-requires-clause-lawful
commit-requires-clause-lawful g c =
    let free = rw (← c.self.view_is) at c.requires.free in
    let s = c.ready_for.ensures.shard in
    same_refusal c.ready_for.new.shard c.self.inside.shard (change_of c.in-Ok.kept) (change_of c.args.write.entry) (ap (λ (s : Shard). s.key) s) (ap (λ (s : Shard). s.limit) s) (ap (λ (s : Shard). s.rows) s) (ap (λ (s : Shard). s.length) s) c.in-Ok.ensures.kept
    ∙ (over_shard _ _ _ _ c.self.inside.shard c.self.inside.next.items c.self.invariant _ ∙ free)

pub tell-told-requires-clause-clear : goal.tell-told-requires-clause-clear
tell-told-requires-clause-clear g c = still_clear _ _ c.ready_for.ensures.packets c.requires.ready.clear.packets

pub tell-told-requires-clause-count : goal.tell-told-requires-clause-count
tell-told-requires-clause-count g c =
    let edges = rw (← c.self.view_is) at c.requires.ready.edges in
    let parts = rw (← c.self.view_is) at c.requires.parts in
    parts_count (g.F.Fronts.log (g.F.Fronts.front c.self.inside.right)) (g.F.Fronts.authors (g.F.Fronts.front c.self.inside.right)) c.args.parts (change_of c.args.write.entry) (length c.ready_for.new.out.edges) parts
    (same_count _ _ c.ready_for.ensures.packets ∙ edges)

pub tell-told-requires-clause-truth : goal.tell-told-requires-clause-truth
tell-told-requires-clause-truth g c =
    let here = rw (c.in-Ok-Here.field-0-is) at c.in-Ok-Here.ensures.here in
    let parts = rw (← c.self.view_is) at c.requires.parts in
    let turn = rw (← c.self.view_is) at c.requires.turn in
    parts_true (g.F.Fronts.log (g.F.Fronts.front c.self.inside.right)) (g.F.Fronts.authors (g.F.Fronts.front c.self.inside.right)) c.args.parts (g.F.Fronts.log (g.F.Fronts.front c.append.new.right)) (change_of c.args.write.entry) c.len-index.result parts here
    (c.len-index.ensures ∙ ap (λ (s : Shard). s.length) c.ready_for.ensures.shard ∙ c.self.invariant.at.counts) turn

pub answer_accepted-requires : goal.answer_accepted-requires
answer_accepted-requires g c =
    let here = rw (c.in-Ok-Here.field-0-is) at c.in-Ok-Here.ensures.here in
    let author = rw (c.in-Ok-Here.field-0-is) at c.in-Ok-Here.ensures.author in
    accepted_as g.F.Fronts.log g.F.Fronts.authors g.F.Fronts.is_all c.args.write c.len-index.result c.tell-told.result (g.F.Fronts.front c.self.inside.right) (g.F.Fronts.front c.append.new.right) here author
    (c.len-index.ensures ∙ ap (λ (s : Shard). s.length) c.ready_for.ensures.shard ∙ c.self.invariant.at.counts) c.self.invariant.written c.tell-told.ensures.front

pub invariant_of-self-in-Ok-Here : goal.invariant_of-self-in-Ok-Here
invariant_of-self-in-Ok-Here g c =
    let here = rw (c.in-Ok-Here.field-0-is) at c.in-Ok-Here.ensures.here in
    let author = rw (c.in-Ok-Here.field-0-is) at c.in-Ok-Here.ensures.author in
    let of = rw (← c.self.view_is) at c.requires.of in
    let rises = rw (← c.self.view_is) at c.requires.rises in
    let entries = (g.F.Fronts.log (g.F.Fronts.front c.self.inside.right)).entries in
    let s = c.ready_for.ensures.shard in
    let at : IsAt c.commit.new.self (entries ++ change_of c.args.write.entry ∷ []) = subst (λ (x : Change). IsAt c.commit.new.self (entries ++ x ∷ [])) c.in-Ok.ensures.kept (c.commit.ensures.front entries (at_room c.self.inside.shard c.ready_for.new.shard entries s c.self.invariant.at)) in
    truth_next _ _ _ _ c.self.inside.shard c.self.inside.next.items c.self.invariant c.commit.new.self _ _ c.args.write.session c.args.write.number (change_of c.args.write.entry) here author at
    (ap (λ (s : Shard). s.key) c.commit.ensures.shard ∙ ap (λ (s : Shard). s.key) s) (ap (λ (s : Shard). s.limit) c.commit.ensures.shard ∙ ap (λ (s : Shard). s.limit) s) of.0 rises

pub decline-requires-in-Ok-Moved-clause-clear : goal.decline-requires-in-Ok-Moved-clause-clear
decline-requires-in-Ok-Moved-clause-clear g c = still_clear _ _ c.ready_for.ensures.packets c.requires.ready.clear.packets

pub decline-requires-in-Err-clause-clear : goal.decline-requires-in-Err-clause-clear
decline-requires-in-Err-clause-clear g c = still_clear _ _ c.ready_for.ensures.packets c.requires.ready.clear.packets

pub returns-in-Ok-Here-clause-done : goal.returns-in-Ok-Here-clause-done
returns-in-Ok-Here-clause-done g c =
    let here = rw (c.in-Ok-Here.field-0-is) at c.in-Ok-Here.ensures.here in
    let author = rw (c.in-Ok-Here.field-0-is) at c.in-Ok-Here.ensures.author in
    let edges = rw (← c.self.view_is) at c.requires.ready.edges in
    let parts = rw (← c.self.view_is) at c.requires.parts in
    let at = c.len-index.ensures ∙ ap (λ (s : Shard). s.length) c.ready_for.ensures.shard ∙ c.self.invariant.at.counts in
    rw (← c.self.view_is) (done_told g.F.Fronts.log g.F.Fronts.authors c.args.write _ _ c.tell-told.result c.answer_accepted.result c.tell-told.new.out c.answer_accepted.new.out c.len-index.result _ c.answer_accepted.ensures.ok c.answer_accepted.ensures.err c.tell-told.ensures.front c.tell-told.ensures.sent here author at
    (told_is (g.F.Fronts.log (g.F.Fronts.front c.self.inside.right)) (g.F.Fronts.authors (g.F.Fronts.front c.self.inside.right)) c.args.parts _ (change_of c.args.write.entry) c.len-index.result (length c.ready_for.new.out.edges) parts here at (same_count _ _ c.ready_for.ensures.packets ∙ edges))
    (length-set c.self.inside.next.items c.args.write.session _) c.is_err-self-inside.ensures.value)

pub returns-in-Ok-Here-clause-edges : goal.returns-in-Ok-Here-clause-edges
returns-in-Ok-Here-clause-edges g c = edges_told g.F.Fronts.log g.F.Fronts.authors c.args.write c.tell-told.result c.answer_accepted.result c.tell-told.new.out c.answer_accepted.new.out c.len-index.result c.answer_accepted.ensures.ok c.answer_accepted.ensures.err ∙ c.tell-told.ensures.edges ∙ same_count _ _ c.ready_for.ensures.packets

pub returns-in-Ok-Moved-clause-edges : goal.returns-in-Ok-Moved-clause-edges
returns-in-Ok-Moved-clause-edges g c = ap (λ (o : OutboxView g.row.F.Denot). length o.edges) c.decline-in-Ok-Moved.ensures.only ∙ same_count _ _ c.ready_for.ensures.packets

pub returns-in-Err-clause-edges : goal.returns-in-Err-clause-edges
returns-in-Err-clause-edges g c = ap (λ (o : OutboxView g.row.F.Denot). length o.edges) c.decline-in-Err.ensures.only ∙ same_count _ _ c.ready_for.ensures.packets

pub returns-in-Ok-Here-clause-memory : goal.returns-in-Ok-Here-clause-memory
returns-in-Ok-Here-clause-memory g c = memory_told g.F.Fronts.log g.F.Fronts.authors g.F.Fronts.may_refuse c.args.write c.tell-told.result c.answer_accepted.result c.tell-told.new.out c.answer_accepted.new.out c.len-index.result c.answer_accepted.ensures.ok c.tell-told.ensures.only

use Rattle.std.proofs.Common.{◌≡◌, ◌<◌, ◌≤◌, ◌∙◌, OnOk, IfErr, Some, sym, subst, inl, slice_index_or, arith}
use Rattle.model.specs.Entries.{change_of}
use Rattle.model.proofs.Lists.{any_end}
use Rattle.protocol.specs.Bases.{Done, declined, next_of}
use Rattle.protocol.specs.BaseSteps.{appended, quiet, step}
use Rattle.base_domain.specs.Codes.{write_of}
use Rattle.base_domain.specs.Received.{Fails, Goes, base_at}
use Rattle.base_domain.proofs.Accepts.{allowed_step, keyed, keyed_shard, next_is, over_shard, parts_at, refused_step, turn_at}
use Rattle.base_domain.proofs.Arms.{step_stale}
use Rattle.base_domain.proofs.Dones.{silent_done}
use Rattle.base_domain.proofs.Parts.{none_to}
use Rattle.base_domain.proofs.base_domain.BaseDomain.write.Goals as goal

pub returns-then-write-index-clause-done : goal.returns-then-write-index-clause-done
returns-then-write-index-clause-done g c =
    let place = rw (← c.self.view_is) at c.requires.of.0 in
    let n = next_is _ _ _ _ c.self.inside.shard c.self.inside.next.items c.self.invariant c.args.write.session place in
    let low : c.args.write.number < slice_index_or c.self.inside.next.items c.args.write.session 0 = omega (arith, c.index.ensures, any_end c.self.inside.next.items c.args.write.session c.index.result.now 0 place, c.if-write-index.true) in
    let lt : c.args.write.number < next_of c.args.write.session (g.F.Fronts.authors c.args.self.now.front) = rw (← c.self.view_is) (omega (arith, n, low)) in
    subst (λ (d : Done). Goes g.F.Fronts.log g.F.Fronts.authors (write_of c.args.write) c.args.self.now d c.args.out.now c.args.self.now) (sym (step_stale (base_at g.F.Fronts.log g.F.Fronts.authors c.args.self.now) c.args.write.session c.args.write.number (change_of c.args.write.entry) lt))
    (inl (silent_done g.F.Fronts.log g.F.Fronts.authors (write_of c.args.write) c.args.self.now c.args.out.now _ c.requires.ready.clear.reply (none_to c.args.out.now.edges _ _ c.requires.ready.edges c.requires.ready.clear.packets) c.requires.ready.running))

pub weigh-requires : goal.weigh-requires
weigh-requires g c =
    let fit = rw (← c.self.view_is) at c.requires.of.2 in
    keyed_shard _ _ _ _ c.self.inside.shard c.self.inside.next.items c.self.invariant _ (change_of c.args.write.entry) c.table-table.ensures.table c.table-table.ensures.key fit

pub accept-requires-clause-parts : goal.accept-requires-clause-parts
accept-requires-clause-parts g c =
    let is = rw (c.in-Ok-Ok.field-0-is) at c.in-Ok-Ok.ensures.parts in
    let brings = rw (c.in-Ok-Ok.field-0-is) at c.in-Ok-Ok.ensures.brings in
    rw (← c.self.view_is) (parts_at _ _ _ _ c.self.inside.shard c.self.inside.next.items c.self.invariant c.in-Ok-Ok.parts (change_of c.args.write.entry) is brings)

pub accept-requires-clause-turn : goal.accept-requires-clause-turn
accept-requires-clause-turn g c =
    let brings = rw (c.in-Ok-Ok.field-0-is) at c.in-Ok-Ok.ensures.brings in
    rw (← c.self.view_is) (turn_at _ _ _ _ c.self.inside.shard c.self.inside.next.items c.self.invariant c.in-Ok-Ok.parts (change_of c.args.write.entry) brings)

pub accept-requires-clause-free : goal.accept-requires-clause-free
accept-requires-clause-free g c =
    let is = rw (c.in-Ok-Ok.field-0-is) at c.in-Ok-Ok.ensures.allowed in
    rw (← c.self.view_is) (sym (over_shard _ _ _ _ c.self.inside.shard c.self.inside.next.items c.self.invariant (change_of c.args.write.entry)) ∙ is)

pub accept-requires-clause-key : goal.accept-requires-clause-key
accept-requires-clause-key g c =
    let fit = rw (← c.self.view_is) at c.requires.of.2 in
    rw (← c.self.view_is) (keyed _ _ _ _ c.self.inside.shard c.self.inside.next.items c.self.invariant _ (change_of c.args.write.entry) c.table-table.ensures.table c.table-table.ensures.key fit)

pub refuse-requires-clause-why : goal.refuse-requires-clause-why
refuse-requires-clause-why g c =
    let is = rw (c.in-Ok-Err.field-0-is) at c.in-Ok-Err.ensures.refused in
    rw (← c.self.view_is) (sym (over_shard _ _ _ _ c.self.inside.shard c.self.inside.next.items c.self.invariant (change_of c.args.write.entry)) ∙ is)

pub returns-in-Ok-Err-clause-done : goal.returns-in-Ok-Err-clause-done
returns-in-Ok-Err-clause-done g c =
    let is = rw (c.in-Ok-Err.field-0-is) at c.in-Ok-Err.ensures.refused in
    let low : slice_index_or c.self.inside.next.items c.args.write.session 0 ≤ c.args.write.number = omega (arith, c.index.ensures, any_end c.self.inside.next.items c.args.write.session c.index.result.now 0 (rw (← c.self.view_is) at c.requires.of.0), c.if-write-index.false) in
    let arm : step (base_at g.F.Fronts.log g.F.Fronts.authors c.args.self.now) (write_of c.args.write) ≡ quiet (base_at g.F.Fronts.log g.F.Fronts.authors c.args.self.now) (Some (declined c.in-Ok-Err.refused)) = rw (← c.self.view_is) (refused_step _ _ _ _ c.self.inside.shard c.self.inside.next.items c.self.invariant c.args.write.session c.args.write.number (change_of c.args.write.entry) c.in-Ok-Err.refused (rw (← c.self.view_is) at c.requires.of.0) low is) in
    subst (λ (d : Done). OnOk c.refuse.result (Goes g.F.Fronts.log g.F.Fronts.authors (write_of c.args.write) c.args.self.now d c.refuse.new.out c.refuse.new.self)) (sym arm) c.refuse.ensures.done

pub returns-in-Ok-Err-clause-refused : goal.returns-in-Ok-Err-clause-refused
returns-in-Ok-Err-clause-refused g c =
    let is = rw (c.in-Ok-Err.field-0-is) at c.in-Ok-Err.ensures.refused in
    let low : slice_index_or c.self.inside.next.items c.args.write.session 0 ≤ c.args.write.number = omega (arith, c.index.ensures, any_end c.self.inside.next.items c.args.write.session c.index.result.now 0 (rw (← c.self.view_is) at c.requires.of.0), c.if-write-index.false) in
    let arm : step (base_at g.F.Fronts.log g.F.Fronts.authors c.args.self.now) (write_of c.args.write) ≡ quiet (base_at g.F.Fronts.log g.F.Fronts.authors c.args.self.now) (Some (declined c.in-Ok-Err.refused)) = rw (← c.self.view_is) (refused_step _ _ _ _ c.self.inside.shard c.self.inside.next.items c.self.invariant c.args.write.session c.args.write.number (change_of c.args.write.entry) c.in-Ok-Err.refused (rw (← c.self.view_is) at c.requires.of.0) low is) in
    subst (λ (d : Done). IfErr c.refuse.result (λ e. Fails g.F.Fronts.log g.F.Fronts.authors (write_of c.args.write) c.args.self.now d e c.refuse.new.out c.refuse.new.self)) (sym arm) c.refuse.ensures.refused

pub returns-in-Ok-Ok-clause-done : goal.returns-in-Ok-Ok-clause-done
returns-in-Ok-Ok-clause-done g c =
    let is = rw (c.in-Ok-Ok.field-0-is) at c.in-Ok-Ok.ensures.allowed in
    let low : slice_index_or c.self.inside.next.items c.args.write.session 0 ≤ c.args.write.number = omega (arith, c.index.ensures, any_end c.self.inside.next.items c.args.write.session c.index.result.now 0 (rw (← c.self.view_is) at c.requires.of.0), c.if-write-index.false) in
    let arm : step (base_at g.F.Fronts.log g.F.Fronts.authors c.args.self.now) (write_of c.args.write) ≡ appended (base_at g.F.Fronts.log g.F.Fronts.authors c.args.self.now) c.args.write.session c.args.write.number (change_of c.args.write.entry) = rw (← c.self.view_is) (allowed_step _ _ _ _ c.self.inside.shard c.self.inside.next.items c.self.invariant c.args.write.session c.args.write.number (change_of c.args.write.entry) (rw (← c.self.view_is) at c.requires.of.0) low is) in
    subst (λ (d : Done). OnOk c.accept.result (Goes g.F.Fronts.log g.F.Fronts.authors (write_of c.args.write) c.args.self.now d c.accept.new.out c.accept.new.self)) (sym arm) c.accept.ensures.done

pub returns-in-Ok-Ok-clause-refused : goal.returns-in-Ok-Ok-clause-refused
returns-in-Ok-Ok-clause-refused g c =
    let is = rw (c.in-Ok-Ok.field-0-is) at c.in-Ok-Ok.ensures.allowed in
    let low : slice_index_or c.self.inside.next.items c.args.write.session 0 ≤ c.args.write.number = omega (arith, c.index.ensures, any_end c.self.inside.next.items c.args.write.session c.index.result.now 0 (rw (← c.self.view_is) at c.requires.of.0), c.if-write-index.false) in
    let arm : step (base_at g.F.Fronts.log g.F.Fronts.authors c.args.self.now) (write_of c.args.write) ≡ appended (base_at g.F.Fronts.log g.F.Fronts.authors c.args.self.now) c.args.write.session c.args.write.number (change_of c.args.write.entry) = rw (← c.self.view_is) (allowed_step _ _ _ _ c.self.inside.shard c.self.inside.next.items c.self.invariant c.args.write.session c.args.write.number (change_of c.args.write.entry) (rw (← c.self.view_is) at c.requires.of.0) low is) in
    subst (λ (d : Done). IfErr c.accept.result (λ e. Fails g.F.Fronts.log g.F.Fronts.authors (write_of c.args.write) c.args.self.now d e c.accept.new.out c.accept.new.self)) (sym arm) c.accept.ensures.refused

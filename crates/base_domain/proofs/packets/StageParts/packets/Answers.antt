use Rattle.std.proofs.Common.{◌≡◌, ◌∷◌, ◌++◌, [], map, length, append_assoc, sym, ◌∙◌, ap, refl, arith}
use Rattle.std.proofs.lemmas.List.{length-map}
use Rattle.std.proofs.lemmas.List.FromFn.{length-map-range_with_len}
use Rattle.base_domain.specs.Told.{part_packet}
use Rattle.packet.proofs.Sends.{made_more}
use Rattle.base_domain.proofs.Parts.{part_at, part_lt, part_is, part_true, count_more}
use Rattle.base_domain.proofs.packets.StageParts.packets.Goals as goal

pub loop-changes-init : goal.loop-changes-init
loop-changes-init g c =
    let n = length-map c.self.inside.records.items (λ w. w.items) in
    let same = ap length c.self.view_is in
    ([], ap (map (λ w. w.items)) c.into_iter-changes-iterator.ensures.into_iter_gives.0 ∙ c.self.view_is, refl, c.self.invariant.0, omega (arith, n, same, c.self.invariant.1))

pub new-requires-clause-truth : goal.new-requires-clause-truth
new-requires-clause-truth g c =
    let i = c.loop-changes.invariant in
    let rest = map (λ w. w.items) c.next.new.self.rest.items in
    let x = c.in-Some.changes.items in
    let whole : i.0 ++ x ∷ rest ≡ c.args.self = ap (λ l. i.0 ++ map (λ w. w.items) l) (sym c.in-Some.ensures.steps.0) ∙ i.1 in
    part_true _ _ c.args.from c.loop-changes.stage c.args.self x c.in_ok-to.ensures.same.0 (part_at i.0 x rest c.args.self c.loop-changes.stage [] i.2 whole) (c.requires.truth c.loop-changes.stage (part_lt i.0 x rest c.args.self c.loop-changes.stage i.2 whole))

pub push_reserved-requires : goal.push_reserved-requires
push_reserved-requires g c =
    let i = c.loop-changes.invariant in
    let rest = map (λ w. w.items) c.next.new.self.rest.items in
    let x = c.in-Some.changes.items in
    let whole : i.0 ++ x ∷ rest ≡ c.args.self = ap (λ l. i.0 ++ map (λ w. w.items) l) (sym c.in-Some.ensures.steps.0) ∙ i.1 in
    let lt = part_lt i.0 x rest c.args.self c.loop-changes.stage i.2 whole in
    let made = ap length i.3 ∙ length-map-range_with_len (part_packet _ c.args.from c.args.self) 0 c.loop-changes.stage in
    omega (arith, lt, made, c.loop-changes.packets.ok.0, i.4)

pub loop-changes-preserved : goal.loop-changes-preserved
loop-changes-preserved g c =
    let i = c.loop-changes.invariant in
    let rest = map (λ w. w.items) c.next.new.self.rest.items in
    let x = c.in-Some.changes.items in
    let whole : i.0 ++ x ∷ rest ≡ c.args.self = ap (λ l. i.0 ++ map (λ w. w.items) l) (sym c.in-Some.ensures.steps.0) ∙ i.1 in
    let log = g.F.Fronts.log (g.F.Fronts.front c.args.right.now) in (
      i.0 ++ x ∷ [],
      append_assoc i.0 (x ∷ []) rest ∙ whole,
      count_more i.0 x c.loop-changes.stage i.2,
      made_more (part_packet log c.args.from c.args.self) c.loop-changes.stage c.loop-changes.packets.items c.push_reserved.new.self.items c.new.result i.3
          (c.new.ensures ∙ part_is log _ c.args.from c.loop-changes.stage c.args.self x c.in_ok-to.ensures.same.0 (part_at i.0 x rest c.args.self c.loop-changes.stage [] i.2 whole)) c.push_reserved.ensures.items,
      omega (arith, c.push_reserved.ensures.capacity, i.4),
    )

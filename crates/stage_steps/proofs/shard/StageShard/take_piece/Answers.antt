use Rattle.std.proofs.Common.{◌≡◌, ◌==◌, ◌&&◌, not, true, false, Some, slice_get, ap, sym, ◌∙◌, subst}
use Rattle.std.specs.Option.{option_map}
use Rattle.std.proofs.lemmas.Bool.{eqb-true}
use Rattle.row.specs.Cells.{datum_of, row_cmp}
use Rattle.plan.proofs.Both.{and_left, and_right}
use Rattle.packet.specs.Keys.{give_at}
use Rattle.packet.specs.Lines.{entries_of}
use Rattle.packet.specs.Readers.{is_left, right_tag}
use Rattle.packet.specs.Truth.{IsBasePiece}
use Rattle.packet.specs.Messages.{Piece}
use Rattle.protocol.specs.StageSteps.{piece_taken, quiet}
use Rattle.right_rows.specs.Rights.{keys_in}
use Rattle.row.specs.Bags.{sorted}
use Rattle.row.proofs.BagLemmas.{not_true}
use Rattle.stage_sides.specs.Kept.{kept_rows}
use Rattle.stage_steps.proofs.Puts.{after}
use Rattle.stage_steps.specs.Outboxes.{AreEdges}
use Rattle.stage_steps.specs.Shards.{IsFrom, IsPut, IsWhole, Shard}
use Rattle.stage_steps.proofs.Fed.{fed_keyed, fed_order, fed_rows, fed_whole, put_fed, put_unfed}
use Rattle.stage_steps.proofs.shard.StageShard.take_piece.Goals as goal

pub give-requires : goal.give-requires
give-requires g c =
    let x : Shard = record { plan = c.self.inside.plan.now; shard = c.self.inside.shard; line = c.self.inside.line; rows = c.self.inside.rows; pending = c.self.inside.pending.items; marks = c.self.inside.marks } in
    let whole = subst IsWhole (sym c.self.view_is) c.requires.whole in
    let from = subst (λ (x : Shard). IsFrom x.plan x.shard c.args.source c.args.packet) (sym c.self.view_is) c.requires.from in
    let at = subst (λ (x : Shard). slice_get (entries_of x.line) c.args.source ≡ Some c.args.packet.from) (sym c.self.view_is) c.requires.next in
    let some : c.args.packet.piece ≡ Some c.in-Some.piece = sym c.into_parts-front.ensures.piece ∙ c.in-Some.is in
    let own = subst (λ o. IsBasePiece c.args.packet o) some c.into_parts-front.ensures.truth.piece in
    let both : (not (is_left x.plan c.args.source) && (c.in-Some.piece.tag == right_tag)) ≡ true = ap (λ t. not (is_left c.self.inside.plan.now c.args.source) && (t == right_tag)) (sym c.tag.ensures) ∙ (sym c.is_of_right_side.ensures ∙ c.if-not-is_of_right_side.false) in
    let apart : is_left c.self.inside.plan.now c.args.source ≡ false = not_true (is_left c.self.inside.plan.now c.args.source) (and_left (not (is_left c.self.inside.plan.now c.args.source)) (c.in-Some.piece.tag == right_tag) both) in
    let tag = eqb-true c.in-Some.piece.tag right_tag (and_right (not (is_left c.self.inside.plan.now c.args.source)) (c.in-Some.piece.tag == right_tag) both) in
    record {
      keyed = fed_keyed x c.keeps_profile.ensures whole c.args.source c.args.packet from at apart c.in-Some.piece own tag c.into_parts-key.result.1.items (datum_of c.into_parts-key.result.0) c.into_parts-key.ensures.key c.into_parts-key.ensures.rows;
      of = fed_rows x c.keeps_profile.ensures whole c.args.source c.args.packet from at apart c.in-Some.piece own tag c.into_parts-key.result.1.items (datum_of c.into_parts-key.result.0) c.into_parts-key.ensures.key c.into_parts-key.ensures.rows;
      in_order = fed_order x c.keeps_profile.ensures whole c.args.source c.args.packet from at apart c.in-Some.piece own tag c.into_parts-key.result.1.items (datum_of c.into_parts-key.result.0) c.into_parts-key.ensures.key c.into_parts-key.ensures.rows;
    }

pub returns-clause-whole : goal.returns-clause-whole
returns-clause-whole g c =
    let x : Shard = record { plan = c.self.inside.plan.now; shard = c.self.inside.shard; line = c.self.inside.line; rows = c.self.inside.rows; pending = c.self.inside.pending.items; marks = c.self.inside.marks } in
    let whole = subst IsWhole (sym c.self.view_is) c.requires.whole in
    let from = subst (λ (x : Shard). IsFrom x.plan x.shard c.args.source c.args.packet) (sym c.self.view_is) c.requires.from in
    let at = subst (λ (x : Shard). slice_get (entries_of x.line) c.args.source ≡ Some c.args.packet.from) (sym c.self.view_is) c.requires.next in
    let some : c.args.packet.piece ≡ Some c.in-Some.piece = sym c.into_parts-front.ensures.piece ∙ c.in-Some.is in
    let own = subst (λ o. IsBasePiece c.args.packet o) some c.into_parts-front.ensures.truth.piece in
    let both : (not (is_left x.plan c.args.source) && (c.in-Some.piece.tag == right_tag)) ≡ true = ap (λ t. not (is_left c.self.inside.plan.now c.args.source) && (t == right_tag)) (sym c.tag.ensures) ∙ (sym c.is_of_right_side.ensures ∙ c.if-not-is_of_right_side.false) in
    let apart : is_left c.self.inside.plan.now c.args.source ≡ false = not_true (is_left c.self.inside.plan.now c.args.source) (and_left (not (is_left c.self.inside.plan.now c.args.source)) (c.in-Some.piece.tag == right_tag) both) in
    let tag = eqb-true c.in-Some.piece.tag right_tag (and_right (not (is_left c.self.inside.plan.now c.args.source)) (c.in-Some.piece.tag == right_tag) both) in
    let e = c.in_ok-give.ensures in
    let own_is = c.right_source-own.ensures in
    let d_key = datum_of c.into_parts-key.result.0 in
    let keys = subst (λ m. keys_in c.give.new.self.right ≡ option_map (give_at m d_key) (keys_in x.rows.right)) own_is e.keys in
    fed_whole x c.keeps_profile.ensures whole c.args.source c.args.packet from at apart c.in-Some.piece own tag c.into_parts-key.result.1.items (datum_of c.into_parts-key.result.0) c.into_parts-key.ensures.key c.into_parts-key.ensures.rows c.give.new.self e.others e.sources keys
    (λ v parts f h. e.truth v parts (λ same. subst (λ m. slice_get parts m ≡ Some (sorted row_cmp (kept_rows x.rows.plan c.into_parts-key.result.1.items))) (sym own_is) (f same)) h)

pub returns-clause-done : goal.returns-clause-done
returns-clause-done g c d out piece is edges put =
    let x : Shard = record { plan = c.self.inside.plan.now; shard = c.self.inside.shard; line = c.self.inside.line; rows = c.self.inside.rows; pending = c.self.inside.pending.items; marks = c.self.inside.marks } in
    let whole = subst IsWhole (sym c.self.view_is) c.requires.whole in
    let from = subst (λ (x : Shard). IsFrom x.plan x.shard c.args.source c.args.packet) (sym c.self.view_is) c.requires.from in
    let at = subst (λ (x : Shard). slice_get (entries_of x.line) c.args.source ≡ Some c.args.packet.from) (sym c.self.view_is) c.requires.next in
    let some : c.args.packet.piece ≡ Some c.in-Some.piece = sym c.into_parts-front.ensures.piece ∙ c.in-Some.is in
    let own = subst (λ o. IsBasePiece c.args.packet o) some c.into_parts-front.ensures.truth.piece in
    let both : (not (is_left x.plan c.args.source) && (c.in-Some.piece.tag == right_tag)) ≡ true = ap (λ t. not (is_left c.self.inside.plan.now c.args.source) && (t == right_tag)) (sym c.tag.ensures) ∙ (sym c.is_of_right_side.ensures ∙ c.if-not-is_of_right_side.false) in
    let apart : is_left c.self.inside.plan.now c.args.source ≡ false = not_true (is_left c.self.inside.plan.now c.args.source) (and_left (not (is_left c.self.inside.plan.now c.args.source)) (c.in-Some.piece.tag == right_tag) both) in
    let tag = eqb-true c.in-Some.piece.tag right_tag (and_right (not (is_left c.self.inside.plan.now c.args.source)) (c.in-Some.piece.tag == right_tag) both) in
    let e = c.in_ok-give.ensures in
    let own_is = c.right_source-own.ensures in
    let d_key = datum_of c.into_parts-key.result.0 in
    let keys = subst (λ m. keys_in c.give.new.self.right ≡ option_map (give_at m d_key) (keys_in x.rows.right)) own_is e.keys in
    let both_are : Some c.in-Some.piece ≡ Some piece = sym some ∙ is in
    let same : c.in-Some.piece ≡ piece = cc in
    let p = subst (λ (x : Shard). IsPut d out x) (sym c.self.view_is) put in
    let edges' = subst (λ (x : Shard). AreEdges x.plan out) (sym c.self.view_is) edges in
    subst (λ (z : Piece). IsPut (after d (quiet (record d.stage { right = piece_taken d.stage c.args.source z }))) out (record x { rows = c.give.new.self })) same
    (put_fed x c.keeps_profile.ensures whole c.args.source c.args.packet from at apart c.in-Some.piece own tag c.into_parts-key.result.1.items (datum_of c.into_parts-key.result.0) c.into_parts-key.ensures.key c.into_parts-key.ensures.rows c.give.new.self e.others e.sources keys d out p edges')

pub returns-then-not-is_of_right_side-clause-done : goal.returns-then-not-is_of_right_side-clause-done
returns-then-not-is_of_right_side-clause-done g c d out piece is edges put =
    let x : Shard = c.args.self.now in
    let some : c.args.packet.piece ≡ Some c.in-Some.piece = sym c.into_parts-front.ensures.piece ∙ c.in-Some.is in
    let both_are : Some c.in-Some.piece ≡ Some piece = sym some ∙ is in
    let same : c.in-Some.piece ≡ piece = cc in
    let plan = ap (λ (x : Shard). x.plan) c.self.view_is in
    let other = (λ i. not (is_left (sym plan i) c.args.source) && (sym c.tag.ensures i == right_tag)) ∙ (sym c.is_of_right_side.ensures ∙ c.if-not-is_of_right_side.true) in
    subst (λ (z : Piece). IsPut (after d (quiet (record d.stage { right = piece_taken d.stage c.args.source z }))) out x) same
    (put_unfed x c.args.source c.in-Some.piece d out other put edges)

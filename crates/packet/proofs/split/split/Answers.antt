use Rattle.std.proofs.Common.{◌≡◌, ◌∷◌, ◌++◌, [], length, sym, ◌∙◌, ap, append_assoc, map, subst}
use Rattle.std.proofs.lemmas.List.{length-map}
use Rattle.packet.specs.Split.{parts_by}
use Rattle.packet.proofs.Splits.{parts_none, parts_length}
use Rattle.packet.proofs.split.split.Goals as goal

pub loop-record-init : goal.loop-record-init
loop-record-init c = ([], c.into_iter-record-iterator.ensures.into_iter_gives.0, c.in_ok-parts.ensures ∙ parts_none c.args.column c.args.n c.args.n 0)

pub put-requires : goal.put-requires
put-requires c = λ none.
    let is = c.loop-record.invariant.2 in
    let e = sym (length-map c.loop-record.parts.items (λ w. w.items)) ∙ ap length is ∙ parts_length c.args.column c.args.n c.loop-record.invariant.0 in
    c.requires (sym e ∙ none)

pub loop-record-preserved : goal.loop-record-preserved
loop-record-preserved c =
    let done = c.loop-record.invariant.0 in
    let is = c.loop-record.invariant.2 in
    let n : length c.loop-record.parts.items ≡ c.args.n = sym (length-map c.loop-record.parts.items (λ w. w.items)) ∙ ap length is ∙ parts_length c.args.column c.args.n done in (
      done ++ c.in-Some.record ∷ [],
      append_assoc done (c.in-Some.record ∷ []) c.next.new.self.rest.items ∙ ap (λ l. done ++ l) (sym c.in-Some.ensures.steps.0) ∙ c.loop-record.invariant.1,
      subst (λ k. map (λ w. w.items) c.put.new.parts.items ≡ parts_by c.args.column k (done ++ c.in-Some.record ∷ [])) n
          (c.in_ok-put.ensures done (is ∙ ap (λ k. parts_by c.args.column k done) (sym n))),
    )

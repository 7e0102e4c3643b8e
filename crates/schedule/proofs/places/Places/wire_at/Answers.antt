use Rattle.std.proofs.Common.{ap, ◌∙◌, slice_get, sym}
use Rattle.std.specs.Option.{option_map}
use Rattle.std.proofs.lemmas.Option.{slice_get-map}
use Rattle.protocol.specs.Edges.{wire_at, wires}
use Rattle.schedule.specs.Codes.{wire_in}
use Rattle.schedule.proofs.places.Places.wire_at.Goals as goal

pub returns-in-Some : goal.returns-in-Some
returns-in-Some c =
    let ws = c.self.inside.wires.items in
    let n = c.in-Some.place in
    ap (option_map wire_in) (c.wire_among.ensures ∙ ap (λ l. slice_get l n) c.deref.ensures.value) ∙ sym (slice_get-map wire_in ws n) ∙ ap (λ l. slice_get l n) (c.self.invariant.wires ∙ ap wires c.self.view_is) ∙ ap (wire_at c.args.self.now) (sym c.in-Some.is)

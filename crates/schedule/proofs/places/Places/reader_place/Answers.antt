use Rattle.std.proofs.Common.{ap, ◌∙◌, sym, position}
use Rattle.packet.specs.Readers.{is_reader, readers}
use Rattle.packet.specs.declared.reader.Reader.{Reader}
use Rattle.protocol.specs.Edges.{place_or}
use Rattle.schedule.specs.Codes.{reader_in}
use Rattle.schedule.proofs.Images.{or_first, position_map}
use Rattle.schedule.proofs.places.Places.reader_place.Goals as goal

pub returns : goal.returns
returns c =
    let test = is_reader c.args.view c.args.shard in
    c.unwrap_or.ensures
    ∙ or_first c.place_of.result
    ∙ ap place_or (c.place_of.ensures ∙ ap (position (λ (r : Reader). test (reader_in r))) c.deref.ensures.value ∙ sym (position_map test reader_in c.self.inside.readers.items) ∙ ap (position test) (c.self.invariant.readers ∙ ap readers c.self.view_is))

use Rattle.std.proofs.Common.{◌≡◌, None, length, ◌∙◌, ap, refl, rules}
use Rattle.std.proofs.lemmas.List.FromFn.{length-map-range_with_len}
use Rattle.base_domain.specs.Told.{part_packet}
use Rattle.base_domain.proofs.Parts.{told_some, told_none}
use Rattle.base_domain.proofs.writing.tell.Goals as goal
use Rattle.base_domain.proofs.writing.tell.Goals.{in-Some+in_ok-packets, in_default}

pub send_to_each-requires-clause-count : goal.send_to_each-requires-clause-count
send_to_each-requires-clause-count g c =
    let count : length c.in-Some.parts ≡ length c.args.out.now.edges = search rules in
    ap length c.in_ok-packets.ensures.packets ∙ length-map-range_with_len (part_packet _ c.args.from _) 0 (length c.in-Some.parts) ∙ count

pub returns-clause-sent : goal.returns-clause-sent
returns-clause-sent g c =
    let log = g.F.Fronts.log (g.F.Fronts.front c.args.right.now) in
    elim c.match-parts-2.branch [
      | in-Some+in_ok-packets w ↦
          let count : length w.in-Some.parts ≡ length c.args.out.now.edges = search rules in
          rw (w.out-is) (told_some log c.args.from (length c.args.out.now.edges) (length w.in-Some.parts) c.args.parts w.in-Some.parts w.in_ok-packets.packets.items _ w.in-Some.is w.in_ok-packets.ensures.packets count w.send_to_each.ensures.sent)
      | in_default w ↦
          let none : c.args.parts ≡ None = search rules in
          rw (w.out-is) (told_none log c.args.from (length c.args.out.now.edges) c.args.parts c.args.out.now.edges _ none refl c.requires.clear)
    ]

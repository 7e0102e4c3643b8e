use Rattle.std.proofs.Common.{◌∙◌, ap}
use Rattle.std.proofs.lemmas.List.{get_or_read}
use Rattle.linked_map.specs.Rings.{no_link, with_older, with_newer, joined}
use Rattle.linked_map.specs.declared.ring.Link.{Link}
use Rattle.linked_map.proofs.ring.join.Goals as goal

pub returns : goal.returns
unfolding joined
returns c =
    let items = c.args.links.now.items in
    let place = c.args.place in
    let first = c.args.first in
    let last = c.index.result.now.newer in
    let read = get_or_read items first c.index.result.now c.requires.first c.index.ensures no_link in
    c.set_newer-2.ensures
    ∙ ap (λ l. with_newer l first place) (c.set_older-2.ensures
    ∙ ap (λ l. with_older l last place) (c.set_newer.ensures ∙ ap (λ l. with_newer l place last) c.set_older.ensures))
    ∙ ap (λ (k : Link). with_newer (with_older (with_newer (with_older items place first) place k.newer) k.newer place) first place) read

use Rattle.std.proofs.Common.{◌∙◌, ap}
use Rattle.std.proofs.lemmas.List.{get_or_read}
use Rattle.linked_map.specs.Rings.{no_link, with_older, with_newer, parted}
use Rattle.linked_map.specs.declared.ring.Link.{Link}
use Rattle.linked_map.proofs.ring.part.Goals as goal

pub returns : goal.returns
unfolding parted
returns c =
    let items = c.args.links.now.items in
    let read = get_or_read items c.args.place c.index.result.now c.requires.place c.index.ensures no_link in
    c.set_newer.ensures
    ∙ ap (λ l. with_newer l c.index.result.now.older c.index.result.now.newer) c.set_older.ensures
    ∙ ap (λ (k : Link). with_newer (with_older items k.newer k.older) k.older k.newer) read

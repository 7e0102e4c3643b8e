use Rattle.std.proofs.Common.{◌∙◌, ap, sym}
use Rattle.std.proofs.lemmas.List.{get_or_read}
use Rattle.linked_map.specs.Rings.{no_link, with_older, with_newer, told}
use Rattle.linked_map.specs.declared.ring.Link.{Link}
use Rattle.linked_map.proofs.Counting.{if_apart}
use Rattle.linked_map.proofs.ring.rename.Goals as goal

pub returns : goal.returns
unfolding told
returns c =
    let items = c.args.links.now.items in
    let to = c.args.to in
    let read = get_or_read items c.args.from c.index.result.now c.requires.place c.index.ensures no_link in
    c.set_newer.ensures
    ∙ ap (λ l. with_newer l c.index.result.now.older to) c.set_older.ensures
    ∙ ap (λ (k : Link). with_newer (with_older items k.newer to) k.older to) read
    ∙ sym (if_apart c.args.from to items (told items c.args.from to) c.if-from-to.false)

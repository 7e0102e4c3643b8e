use Rattle.std.proofs.Common.{rules, ◌∙◌, sym}
use Rattle.std.proofs.lemmas.Iterator.{YieldsList-from_slice}
use Rattle.std.proofs.lemmas.Iterator.Search.{all_from_yields_List}
use Rattle.model.specs.Logs.{fits}
use Rattle.model.specs.Entries.{change_of}
use Rattle.plain.proofs.Loops.{list_all-map}
use Rattle.plain.proofs.front.Front.fits.Goals as goal

pub returns : goal.returns
returns c =
    let t = c.args.table.now in
    rw (← c.self.view_is)
    (all_from_yields_List (λ e. fits t (change_of e)) _ _ c.all.result c.all.ensures.ran (YieldsList-from_slice c.self.inside.entries.items cc) (λ x b q k. search rules)
    ∙ sym (list_all-map (fits t) change_of c.self.inside.entries.items))

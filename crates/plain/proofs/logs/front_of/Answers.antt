use Rattle.std.proofs.Common.{◌∙◌, ap, sym, map, take}
use Rattle.std.proofs.lemmas.List.{take-map}
use Rattle.model.specs.Entries.{change_of}
use Rattle.plain.proofs.logs.front_of.Goals as goal

pub returns : goal.returns
returns c =
    c.new.ensures
    ∙ (ap (map change_of) c.truncate.ensures.items
    ∙ (sym (take-map change_of c.args.length c.in_ok-entries.entries.items) ∙ ap (take c.args.length) c.in_ok-entries.ensures))

use Rattle.std.proofs.Common.{◌≡◌, Some, slice_get, ap, sym, ◌∙◌}
use Rattle.row.specs.Cells.{datum_of}
use Rattle.model.specs.Queries.{answer}
use Rattle.protocol.specs.WorldSteps.{lengths_of}
use Rattle.view_domain.specs.Domains.{Domain, lines_of}
use Rattle.machine.specs.Machines.{held}
use Rattle.machine.proofs.Meeting.{there_at}
use Rattle.world.proofs.Looking.{own_shard, some_of, is_there, is_not, one_of, missed, hits}
use Rattle.world.proofs.reads.look.Goals as goal

abbrev at : (g : _) (c : goal.After-index g) → slice_get c.args.machine.now.views.items c.args.at.1 ≡ Some c.index.result.now
at g c = there_at c.args.machine.now.views.items c.args.at.1 _ c.requires.there ∙ ap Some (sym c.index.ensures)

pub find-requires-clause-whole : goal.find-requires-clause-whole
find-requires-clause-whole g c = (c.requires.placed.views.each c.args.at.1 c.index.result.now (at g c)).whole

pub find-requires-clause-shard : goal.find-requires-clause-shard
find-requires-clause-shard g c =
    own_shard c.args.machine.now.places c.args.at.1 c.args.at.0 (datum_of c.args.key.now) c.index.result.now (c.requires.placed.views.each c.args.at.1 c.index.result.now (at g c)) c.requires.reader

pub returns : goal.returns
returns g c =
    let d = c.index.result.now in
    let k = datum_of c.args.key.now in
    let views = c.args.machine.now.views.items in
    let at : slice_get views c.args.at.1 ≡ Some d = there_at views c.args.at.1 _ c.requires.there ∙ ap Some (sym c.index.ensures) in
    let again : slice_get views c.args.at.1 ≡ Some c.index-2.result.now = there_at views c.args.at.1 _ c.requires.there ∙ ap Some (sym c.index-2.ensures) in
    let own = there_at c.args.machine.now.callers.items c.args.session _ c.requires.session ∙ ap Some (sym c.index_mut.ensures.value) in
    let cut = c.in-Ok-cut_lengths.cut in
    let cut-is : cut ≡ lengths_of (lines_of d.cut) = c.in-Ok-cut_lengths.ensures ∙ ap (λ (x : Domain). lengths_of (lines_of x.cut)) (one_of views c.args.at.1 c.index-2.result.now d again at) in
    record {
      done = λ caller there.
          hits g.F.Fronts.log g.F.Fronts.authors (held c.args.machine.now) c.args.session caller c.args.at.0 k c.args.at.1 d c.requires.placed at c.index_mut.result.now c.raise_to.new.self c.in-Some.rows.items cut c.in-Ok-try_clone.floor own there c.requires.reader
          (is_there c.in-Ok.found c.in-Some.rows d k c.in-Some.is c.in-Ok.ensures.filled)
          (some_of (λ v. v.items ≡ answer d.plan (lines_of d.cut) d.view k) c.in-Ok.found c.in-Some.rows c.in-Some.is c.in-Ok.ensures.rows)
          cut-is
          c.in-Ok-try_clone.ensures c.raise_to.ensures;
    }

pub returns-in_default-found : goal.returns-in_default-found
returns-in_default-found g c =
    let d = c.index.result.now in
    let at : slice_get c.args.machine.now.views.items c.args.at.1 ≡ Some d = there_at c.args.machine.now.views.items c.args.at.1 _ c.requires.there ∙ ap Some (sym c.index.ensures) in
    record {
      done = λ caller there.
          missed g.F.Fronts.log g.F.Fronts.authors (held c.args.machine.now) c.args.session caller c.args.at.0 (datum_of c.args.key.now) c.args.at.1 d c.requires.placed at (is_not c.in-Ok.found d (datum_of c.args.key.now) c.in_default-found.is c.in-Ok.ensures.filled);
    }

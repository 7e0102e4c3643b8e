use Rattle.std.proofs.Common.{sym, refl}
use Rattle.row.specs.Cells.{datum_of}
use Rattle.view_domain.specs.Domains.{lines_of}
use Rattle.view_domain.specs.Shown.{rows_at}
use Rattle.view_domain.proofs.Holds.{goes_on, kept_holds, open_done, nothing_told}
use Rattle.view_domain.proofs.view_domain.ViewDomain.open.Goals as goal

pub invariant_of-self-2 : goal.invariant_of-self-2
invariant_of-self-2 g c = (c.self.invariant.0, λ b. kept_holds _ c.open_key.new.kept c.self.inside.asked (c.self.invariant.1 b) c.open_key.ensures.sources (λ k shares n t. c.open_key.ensures.truth k shares t))

pub returns-clause-done : goal.returns-clause-done
returns-clause-done g c = rw (c.put_shown.ensures, ← c.self.view_is)
    (open_done _ (datum_of c.args.key) c.open_key.new.kept c.args.out.now c.of.result (rw (← c.self.view_is) at c.requires.ready.running) c.open_key.ensures.stands c.requires.ready.clear (rw (← c.self.view_is) at c.requires.ready.edges) (record {
      keys = rw c.of.ensures.keys (c.in-Ok.ensures.shown (rows_at c.self.inside.kept) (nothing_told (rows_at c.self.inside.kept) c.new-told.result.items c.self.inside.kept c.new-told.ensures.items (λ k. refl)));
      cut = sym (c.of.ensures.cut (lines_of c.self.inside.cut.items));
      line = goes_on _ 0 c.of.result _ _ _ c.of.ensures.parts tt;
      of = rw c.of.ensures.line tt;
      asked = sym c.of.ensures.asked;
    }))

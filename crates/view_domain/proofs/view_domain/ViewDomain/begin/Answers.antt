use Rattle.std.proofs.Common.{◌∙◌, sym, ap, is_some}
use Rattle.row.specs.Cells.{datum_of}
use Rattle.view_domain.specs.Domains.{lines_of}
use Rattle.view_domain.proofs.Holds.{goes_on, kept_holds, want_idle, want_made, sound}
use Rattle.view_domain.proofs.view_domain.ViewDomain.begin.Goals as goal

pub invariant_of-self-in_default-begun : goal.invariant_of-self-in_default-begun
invariant_of-self-in_default-begun g c = (c.self.invariant.0, λ b. kept_holds _ c.begin_key.new.kept c.self.inside.asked (c.self.invariant.1 b) c.in-Ok.ensures.sources c.in-Ok.ensures.truth)

pub returns-in_default-begun-clause-done : goal.returns-in_default-begun-clause-done
returns-in_default-begun-clause-done g c = rw (← c.self.view_is)
    (want_idle _ (datum_of c.args.key) c.begin_key.new.kept c.args.out.now (ap is_some (sym c.in_default-begun.is) ∙ c.in-Ok.ensures.hole) (rw (← c.self.view_is) at c.requires.ready.running) (rw c.in_default-begun.is at c.in-Ok.ensures.stays) c.requires.ready.clear (rw (← c.self.view_is) at c.requires.ready.edges) c.in-Ok.ensures.shown)

pub invariant_of-self-in-Ok-put_to_each : goal.invariant_of-self-in-Ok-put_to_each
invariant_of-self-in-Ok-put_to_each g c = (c.self.invariant.0, λ b. kept_holds _ c.begin_key.new.kept c.count-self-inside.result (c.self.invariant.1 b) c.in-Ok.ensures.sources c.in-Ok.ensures.truth)

pub returns-clause-done : goal.returns-clause-done
returns-clause-done g c =
    let running = rw (← c.self.view_is) at c.requires.ready.running in
    rw (← c.self.view_is)
    (want_made _ (datum_of c.args.key) c.begin_key.new.kept c.count-self-inside.result c.self.inside.tag.0 c.self.inside.kept.sources c.len.result c.in-Some.requests.items c.put_to_each.new.self
    (ap is_some (sym c.in-Some.is) ∙ c.in-Ok.ensures.hole) running c.self.invariant.0 (c.self.invariant.1 (sound c.self.inside.mode running)).sources (rw c.in-Some.is at c.in-Ok.ensures.begins) (c.len.ensures ∙ c.in-Some.requests.ok.0) c.count-self-inside.ensures (rw c.in-Some.is at c.in-Ok.ensures.requests)
    c.in-Ok-put_to_each.ensures.requests (c.in-Ok-put_to_each.ensures.ack ∙ c.requires.ready.clear.ack) (rw c.in-Ok-put_to_each.ensures.shown (record {
      keys = rw (c.of-shown.ensures.keys, c.new.ensures.items) c.in-Ok.ensures.shown;
      cut = sym (c.of-shown.ensures.cut (lines_of c.self.inside.cut.items));
      line = goes_on _ 0 c.of-shown.result _ _ _ c.of-shown.ensures.parts tt;
      of = rw c.of-shown.ensures.line tt;
      asked = sym c.of-shown.ensures.asked;
    })))

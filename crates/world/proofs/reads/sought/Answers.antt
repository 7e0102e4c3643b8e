use Rattle.std.proofs.Common.{◌≡◌, Some, None, refl, subst, arith, inl, inr}
use Rattle.row.specs.Cells.{datum_of}
use Rattle.plan.specs.Layouts.{view_named}
use Rattle.model.specs.Refusals.{read_refusal}
use Rattle.world.proofs.reads.sought.Goals as goal

pub returns-then-session-len : goal.returns-then-session-len
returns-then-session-len g c = record { sought = tt; denied = inl (omega (arith, c.if-session-len.true, c.len.ensures), refl) }

pub returns-in-Err : goal.returns-in-Err
returns-in-Err g c = record {
  sought = tt;
  denied = inr (omega (arith, c.if-session-len.false, c.len.ensures), subst (λ q. read_refusal q (view_named q c.args.view.now) (datum_of c.args.key.now) ≡ Some c.in-Err.refused) c.plan.ensures c.in-Err.ensures.why);
}

pub returns : goal.returns
returns g c = record {
  sought = record {
    session = omega (arith, c.if-session-len.false, c.len.ensures);
    named = subst (λ q. view_named q c.args.view.now ≡ Some c.in-Ok.place) c.plan.ensures c.in-Ok.ensures.view;
    free = subst (λ q. read_refusal q (view_named q c.args.view.now) (datum_of c.args.key.now) ≡ None) c.plan.ensures c.in-Ok.ensures.free;
    place = c.reader_of-reader.ensures.place;
    reader = c.reader_of-reader.ensures.there;
  };
  denied = tt;
}

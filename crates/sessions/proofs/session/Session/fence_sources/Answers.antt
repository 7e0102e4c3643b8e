use Rattle.std.proofs.Common.{inl, inr, refl}
use Rattle.model.proofs.Prefixes.{prefix_self}
use Rattle.sessions.specs.Fences.{IsFenced, IsUnfenced}
use Rattle.sessions.proofs.Found.{err_to, ok_to, unfenced, unsent}
use Rattle.sessions.proofs.Later.{all_self}
use Rattle.sessions.proofs.Looks.{looked_fenced, looked_undone, seen_same}
use Rattle.sessions.proofs.session.Session.fence_sources.Goals as goal

pub returns-in_default-clause-refused : goal.returns-in_default-clause-refused
returns-in_default-clause-refused g c = inr (unfenced _ _ refl)

pub returns-in-Err-clause-refused : goal.returns-in-Err-clause-refused
returns-in-Err-clause-refused g c = rw (← c.self.view_is) (inr (record { after = refl; looked = all_self _; grown = prefix_self _; number = inr refl; why = inl (unsent _ c.in-Err.ensures.only, refl, refl) }))

pub end_fence-requires-clause-all : goal.end_fence-requires-clause-all
end_fence-requires-clause-all g c = rw (c.as_slice-in-Ok-shown_cuts.ensures.value, seen_same g.J.Naming.plan c.args.self.now c.shown_cuts.new.self c.shown_cuts.new.self c.shown_cuts.ensures.looked) c.in-Ok.ensures.all

pub returns-in-Ok-shown_cuts-clause-fenced : goal.returns-in-Ok-shown_cuts-clause-fenced
returns-in-Ok-shown_cuts-clause-fenced g c =
    ok_to (IsFenced g.J.Naming.plan c.shown_cuts.new.self c.end_fence.new.self) _ c.end_fence.result (looked_fenced g.J.Naming.plan _ _ _ c.shown_cuts.ensures.looked) c.end_fence.ensures.fenced

pub returns-in-Ok-shown_cuts-clause-refused : goal.returns-in-Ok-shown_cuts-clause-refused
returns-in-Ok-shown_cuts-clause-refused g c =
    err_to (IsUnfenced g.J.Naming.plan c.shown_cuts.new.self c.end_fence.new.self) _ c.end_fence.result (λ e h. inr (looked_undone g.J.Naming.plan _ _ _ c.shown_cuts.ensures.looked e h)) c.end_fence.ensures.refused

-- A message that is for a domain is of the logs that it holds.
use Rattle.std.proofs.Common.{◌≡◌, ℕ, zero, suc, ◌<◌, List, [], ◌∷◌, length, Some, slice_get, slice_index_or, refl, ap, sym, ◌∙◌, subst, arith}
use Rattle.row.specs.Bags.{Each}
use Rattle.plan.specs.Facts.{Facts}
use Rattle.plan.specs.Layouts.{Layout}
use Rattle.model.specs.Fronts.{LogView}
use Rattle.model.specs.Places.{sources}
use Rattle.packet.specs.Lines.{AreOf, IsOf, entries_of, no_log, plan_of}
use Rattle.packet.specs.Messages.{StagePacketView}
use Rattle.packet.specs.Truth.{Pointwise}
use Rattle.protocol.specs.Stages.{ToStage, packet, request, order}
use Rattle.protocol.proofs.Lists.{each_at}
use Rattle.stage_domain.specs.Domains.{Meets}
use Rattle.stage_domain.specs.Domains.{Domain as StageDomain}
use Rattle.stage_steps.proofs.Lines.{some_source}
use Rattle.view_domain.specs.Codes.{GoesWith, IsFrom}
use Rattle.view_domain.specs.Domains.{Domain as ViewDomain}
use Rattle.domain_turns.specs.StageTurns.{IsFor}
use Rattle.domain_turns.specs.ViewTurns.{IsOwn, are_one}

-- ---- stage shards
-- a line has the front of each base shard at its place
held_of : (p : Layout) (bs : List ℕ) (line : List LogView) (j : ℕ) → Pointwise (IsOf p) bs line → j < length bs → IsOf p (slice_index_or bs j 0) (slice_index_or line j no_log)
held_of p [] line j h lt = absurd (omega (arith, lt))
held_of p (b ∷ bs) [] j h lt = absurd h
held_of p (b ∷ bs) (l ∷ line) zero h lt = h.0
held_of p (b ∷ bs) (l ∷ line) (suc j) h lt = held_of p bs line j h.1 (omega (arith, lt))

-- what is for a stage shard meets what it holds
pub stage_meets : (d : StageDomain) (m : ToStage) → AreOf d.plan d.line → IsFor d m → Meets are_one d m
stage_meets d (packet j k) of f =
    let o = held_of d.plan (sources d.plan) d.line j of f.source in
    (f, (o.plan ∙ sym f.plan, o.base ∙ sym f.base))
stage_meets d (request a) of f = f
stage_meets d (order x) of f = f

-- ---- view shards
lines_even : (p : Layout) (bs : List ℕ) (held to : List LogView) → Pointwise (IsOf p) bs held → Pointwise (IsOf p) bs to → Pointwise (GoesWith are_one) held (entries_of to)
lines_even p [] [] [] h t = tt
lines_even p [] (l ∷ held) to h t = absurd h
lines_even p [] [] (l ∷ to) h t = absurd t
lines_even p (b ∷ bs) [] to h t = absurd h
lines_even p (b ∷ bs) (l ∷ held) [] h t = absurd t
lines_even p (b ∷ bs) (l ∷ held) (m ∷ to) h t = ((refl, refl), lines_even p bs held to h.1 t.1)

-- what is for a view shard meets what it holds
pub view_meets : (d : ViewDomain) (s : ℕ) (x : StagePacketView) (to : List LogView) → Each (AreOf d.plan) d.cut → AreOf x.plan to → entries_of to ≡ x.to → IsOwn d s x → IsFrom are_one d s x
view_meets d s x to of sent is own = record {
  plan = own.plan;
  stage = own.stage;
  place = own.place;
  view = own.view;
  shard = own.shard;
  one = λ line at. subst (Pointwise (GoesWith are_one) line) is
      (lines_even d.plan (sources d.plan) line to (each_at (AreOf d.plan) d.cut s line at of) (subst (λ p. AreOf p to) own.plan sent));
}

-- a line of a plan has a front
pub has_front : (p : Layout) (to : List LogView) → Facts p → AreOf p to → length to ≡ 0 → ⊥
has_front p to facts of none = by (sources p) to (some_source p facts) of none
  where
    by : (bs : List ℕ) (to : List LogView) → 0 < length bs → Pointwise (IsOf p) bs to → length to ≡ 0 → ⊥
    by [] to some of none = absurd (omega (arith, some))
    by (b ∷ bs) [] some of none = absurd of
    by (b ∷ bs) (l ∷ to) some of none = absurd (omega (arith, none))

-- the plan of the first front is that of the line
pub first_plan : (to : List LogView) (l : LogView) (p : Layout) → slice_get to 0 ≡ Some l → plan_of to ≡ p → l.plan ≡ p
first_plan [] l p at is = cc
first_plan (m ∷ to) l p at is = let e : l ≡ m = cc in ap (λ (x : LogView). x.plan) e ∙ is

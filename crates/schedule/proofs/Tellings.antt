-- What a session is told does not depend on the fence that it had open.
use Rattle.std.proofs.Common.{◌≡◌, ℕ, ◌==◌, Bool, true, false, cond, List, Option, Some, is_some, slice_set, refl, ap, sym, ◌∙◌, subst}
use Rattle.std.specs.List.{list_all}
use Rattle.row.specs.declared.refused.Refused.TheVariants.{Behind}
use Rattle.plan.specs.Layouts.{Layout}
use Rattle.model.specs.Histories.{Lengths}
use Rattle.protocol.specs.Worlds.{Fence}
use Rattle.protocol.specs.Events.{fenced, refused}
use Rattle.protocol.proofs.Spots.{is_same}
use Rattle.schedule.specs.Sessions.{Session, is_covered, over, told, acknowledged}

over_reply : (p : Layout) (se : ℕ) (s t : Session) (acks : List (Option Lengths)) → s.own ≡ t.own → (over p se s acks).reply ≡ (over p se t acks).reply
over_reply p se s t acks e = by_test s (list_all (is_covered p s.own) acks) refl ∙ sym (by_test t (list_all (is_covered p s.own) acks) (ap (λ o. list_all (is_covered p o) acks) (sym e)))
  where
    by_test : (u : Session) (b : Bool) → list_all (is_covered p u.own) acks ≡ b → (over p se u acks).reply ≡ cond b (fenced se) (refused Behind)
    by_test u true h = rw h refl
    by_test u false h = rw h refl

told_reply : (p : Layout) (se : ℕ) (s t : Session) (n m : ℕ) (acks : List (Option Lengths)) → s.own ≡ t.own → (told p se s n acks).reply ≡ (told p se t m acks).reply
told_reply p se s t n m acks e = by (list_all is_some acks) refl
  where
    by : (b : Bool) → list_all is_some acks ≡ b → (told p se s n acks).reply ≡ (told p se t m acks).reply
    by true h = rw h (over_reply p se s t acks e)
    by false h = rw h refl

-- a view shard acknowledges the open fence
pub open_reply : (p : Layout) (se : ℕ) (s t : Session) (o : Option Fence) (f g : Fence) (n r : ℕ) (cut : Lengths) → s.own ≡ t.own → o ≡ Some f → f.number ≡ n → g.acks ≡ slice_set f.acks r (Some cut)
    → (told p se s g.number g.acks).reply ≡ (acknowledged p se t o n r cut).reply
open_reply p se s t o f g n r cut own is number acks =
    let one : (f.number == n) ≡ true = subst (λ k. (f.number == k) ≡ true) number (is_same f.number) in
    ap (λ l. (told p se s g.number l).reply) acks
    ∙ told_reply p se s t g.number n (slice_set f.acks r (Some cut)) own
    ∙ sym (ap (λ (x : Option Fence). (acknowledged p se t x n r cut).reply) is ∙ rw one refl)

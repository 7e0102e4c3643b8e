-- Caps are kept, and requests are counted.
use Rattle.std.proofs.Common.{◌≡◌, ℕ, zero, suc, ◌+◌, ◌-◌, ◌==◌, ◌<◌, ◌≤◌, nat_le, Bool, true, false, cond, List, [], ◌∷◌, map, length, Option, Some, None, refl, ap, sym, ◌∙◌, subst, arith}
use Rattle.std.specs.List.{range_with_len}
use Rattle.std.specs.Set.{remove_key}
use Rattle.std.proofs.lemmas.Bool.Decides.{nat_tests}
use Rattle.row.specs.Cells.{Datum, same}
use Rattle.plan.specs.Layouts.{view_at}
use Rattle.partial.specs.States.{is_hole}
use Rattle.packet.specs.Messages.{Ask, none_of}
use Rattle.packet.specs.Keys.{Keys, open_at}
use Rattle.protocol.specs.Bases.{last_number}
use Rattle.protocol.specs.Stages.{Stage}
use Rattle.protocol.specs.StageSteps as on_stage
use Rattle.protocol.specs.Views.{packet, want, order}
use Rattle.protocol.specs.ViewSteps as on_view
use Rattle.protocol.specs.Laws.{filled_count, StageCap, ViewCap, total, AreCounted}
use Rattle.protocol.proofs.Runs.{ran_caps}
use Rattle.row.proofs.Shards.{same_self}

-- ---- one key goes
fewer : {X : Type 0} (test : X → Bool) (xs : List X) → length (remove_key test xs) ≤ length xs
fewer test [] = omega arith
fewer test (x ∷ xs) = by (test x) (fewer test xs)
  where
    by : (b : Bool) → length (remove_key test xs) ≤ length xs → length (cond b xs (x ∷ remove_key test xs)) ≤ length (x ∷ xs)
    by true le = omega arith
    by false le = omega (arith, le)

first_gone : (k : Datum) (ks : List Datum) → remove_key (same k) (k ∷ ks) ≡ ks
first_gone k ks = rw (same_self k) refl

opened : (keys : Keys) (k : Datum) (ks : List Datum) → keys.order ≡ k ∷ ks → length (open_at k keys).order ≤ length ks
opened keys k ks is = let e : (open_at k keys).order ≡ ks = ap (remove_key (same k)) is ∙ first_gone k ks in omega (arith, ap length e)

-- ---- of a view shard
view_oldest : (keys : Keys) (ks : List Datum) → keys.order ≡ ks → length (on_view.oldest_open ks keys).order ≤ length ks - 1
view_oldest keys [] is = omega (arith, ap length is)
view_oldest keys (k ∷ ks) is = omega (arith, opened keys k ks is)

view_shrink : (n : ℕ) (keys : Keys) → length (on_view.shrink n keys).order ≤ length keys.order - n
view_shrink zero keys = omega arith
view_shrink (suc n) keys = let a = view_shrink n (on_view.oldest_open keys.order keys) in let b = view_oldest keys keys.order refl in omega (arith, a, b)

view_capped : (cap : ℕ) (keys : Keys) → length (on_view.capped cap keys).order ≤ cap
view_capped cap keys = omega (arith, view_shrink (length keys.order - cap) keys)

pub view_cap : ViewCap
view_cap v (packet s p) le = view_capped (view_at v.plan v.view).cap (on_view.give_piece s p.piece (on_view.drop_all s p.evicts v.keys))
view_cap v (want k) le = by (is_hole (v.keys.at k))
  where
    by : (b : Bool) → length (cond b (on_view.begins v k) (on_view.quiet v v.keys)).view.keys.order ≤ (view_at v.plan v.view).cap
    by true = le
    by false = le
view_cap v (order k) le = omega (arith, le, fewer (same k) v.keys.order)

-- ---- of a stage shard
stage_first : (s : Stage) (keys : Keys) (ks : List Datum) → keys.order ≡ ks → s.right ≡ Some keys → filled_count (on_stage.first_goes s keys ks).stage.right ≤ length ks - 1
stage_first s keys [] is at = omega (arith, ap filled_count at, ap length is)
stage_first s keys (k ∷ ks) is at = omega (arith, opened keys k ks is)

stage_oldest : (s : Stage) (right : Option Keys) → s.right ≡ right → filled_count (on_stage.oldest_goes s right).stage.right ≤ filled_count right - 1
stage_oldest s None at = omega (arith, ap filled_count at)
stage_oldest s (Some keys) at = stage_first s keys keys.order refl at

stage_shrink : (n : ℕ) (s : Stage) → filled_count (on_stage.shrink n s).stage.right ≤ filled_count s.right - n
stage_shrink zero s = omega arith
stage_shrink (suc n) s = let a = stage_shrink n (on_stage.oldest_goes s s.right).stage in let b = stage_oldest s s.right refl in omega (arith, a, b)

excess_is : (cap : ℕ) (right : Option Keys) → on_stage.excess cap right ≡ filled_count right - cap
excess_is cap None = omega arith
excess_is cap (Some keys) = refl

kept : (s : Stage) (waiting : List Ask) → s.pending ≡ waiting → (on_stage.cap_kept s waiting).stage.pending ≡ [] → filled_count (on_stage.cap_kept s waiting).stage.right ≤ s.plan.cap
kept s [] is none = omega (arith, stage_shrink (on_stage.excess s.plan.cap s.right) s, excess_is s.plan.cap s.right)
kept s (a ∷ waiting) is none = absurd (cc (is, none))

pub stage_cap : StageCap
stage_cap s m none =
    let u = (on_stage.next (on_stage.takes s m) on_stage.looks).stage in
    let p = (ran_caps u).plan in
    subst (λ l. filled_count (on_stage.caps u).stage.right ≤ l.cap) (sym p) (kept u u.pending refl none)

-- ---- requests
total_none : {Y : Type 0} (ys : List Y) → total (none_of ys) ≡ 0
total_none [] = refl
total_none (y ∷ ys) = omega (arith, total_none ys)

total_all : (a n : ℕ) (x : Ask) → total (map (λ r. x ∷ []) (range_with_len a n)) ≡ n
total_all a zero x = refl
total_all a (suc n) x = omega (arith, total_all (a + 1) n x)

total_past : (a n s : ℕ) (xs : List Ask) → s < a → total (map (λ r. cond (r == s) xs []) (range_with_len a n)) ≡ 0
total_past a zero s xs lt = refl
total_past a (suc n) s xs lt =
    let e : (a == s) ≡ false = grind (arith, nat_tests) in
    let r = total_past (a + 1) n s xs (omega (arith, lt)) in rw e (omega (arith, r))

total_one : (a n s : ℕ) (xs : List Ask) → a ≤ s → s < a + n → total (map (λ r. cond (r == s) xs []) (range_with_len a n)) ≡ length xs
total_one a zero s xs le lt = absurd (omega (arith, le, lt))
total_one a (suc n) s xs le lt = by (a == s) refl (λ z. total_one (a + 1) n s xs z (omega (arith, lt)))
  where
    by : (b : Bool) → (a == s) ≡ b → (a + 1 ≤ s → total (map (λ r. cond (r == s) xs []) (range_with_len (a + 1) n)) ≡ length xs) → length (cond b xs []) + total (map (λ r. cond (r == s) xs []) (range_with_len (a + 1) n)) ≡ length xs
    by true e rest = let z : a ≡ s = grind (arith, nat_tests) in omega (arith, total_past (a + 1) n s xs (omega (arith, z)))
    by false e rest = let z : a + 1 ≤ s = grind (arith, nat_tests) in omega (arith, rest z)

counts_none : (a n : ℕ) → n ≡ 0 → a ≤ last_number → a ≡ on_view.counted a n
counts_none a n e le = by (nat_le (a + n) last_number) refl
  where
    by : (b : Bool) → nat_le (a + n) last_number ≡ b → a ≡ cond b (a + n) last_number
    by true t = omega (arith, e)
    by false t = absurd (grind (arith, nat_tests))

pub counted : AreCounted
counted v (packet s p) lt le =
    let asks = map (on_view.ask v) (on_view.again s p.evicts v.keys) in
    ap (on_view.counted v.asked) (sym (total_one 0 v.plan.stages s asks (omega arith) (omega (arith, lt))))
counted v (want k) lt le = by (is_hole (v.keys.at k))
  where
    by : (b : Bool) → (cond b (on_view.begins v k) (on_view.quiet v v.keys)).view.asked ≡ on_view.counted v.asked (total (cond b (on_view.begins v k) (on_view.quiet v v.keys)).requests)
    by true = ap (on_view.counted v.asked) (sym (total_all 0 v.plan.stages (on_view.ask v k)))
    by false = counts_none v.asked (total (none_of (range_with_len 0 v.plan.stages))) (total_none (range_with_len 0 v.plan.stages)) le
counted v (order k) lt le = counts_none v.asked (total (none_of (range_with_len 0 v.plan.stages))) (total_none (range_with_len 0 v.plan.stages)) le

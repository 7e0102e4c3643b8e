-- How many requests the shards of a view have sent, one shard after the other.
use Rattle.std.proofs.Common.{Bool, true, false, cond, nat_le, ◌≡◌, ℕ, ◌+◌, ◌<◌, ◌≤◌, List, [], ◌∷◌, ◌++◌, map, length, take, Some, None, slice_get, slice_index_or, refl, ap, sym, ◌∙◌, subst, arith}
use Rattle.std.proofs.lemmas.Bool.Decides.{nat_tests}
use Rattle.std.proofs.lemmas.List.{map_more, take_all}
use Rattle.row.specs.declared.refused.Refused.{Refused}
use Rattle.plan.specs.Layouts.{Layout, view_named}
use Rattle.model.specs.Fronts.{LogView}
use Rattle.model.specs.Histories.{Author}
use Rattle.model.specs.Refusals.{view_refusal}
use Rattle.protocol.specs.Events.{asked, refused}
use Rattle.protocol.specs.Views.{View}
use Rattle.protocol.specs.Bases.{last_number}
use Rattle.protocol.specs.ViewSteps.{counted}
use Rattle.protocol.specs.Worlds.{Node}
use Rattle.protocol.specs.WorldSteps.{asked_all, asked_of, count_by, count_in}
use Rattle.protocol.proofs.Lists.{map_get}
use Rattle.schedule.specs.Sessions.{Session}
use Rattle.view_domain.specs.Domains.{Domain as ViewDomain}
use Rattle.machine.specs.Held.{Held, IsPlaced, IsDone, world_of, view_node}
use Rattle.machine.proofs.Meeting.{stands}
use Rattle.world.proofs.Looking.{answered}

-- ---- sums that stay at a greatest number
abbrev upto : ℕ → ℕ → ℕ → ℕ
upto m a b = cond (nat_le (a + b) m) (a + b) m

upto_in : (m a b : ℕ) → a + b ≤ m → upto m a b ≡ a + b
upto_in m a b le = let e : nat_le (a + b) m ≡ true = grind (arith, nat_tests, le) in ap (λ c. cond c (a + b) m) e

upto_past : (m a b : ℕ) → m < a + b → upto m a b ≡ m
upto_past m a b lt = let e : nat_le (a + b) m ≡ false = grind (arith, nat_tests, lt) in ap (λ c. cond c (a + b) m) e

upto_top : (m a b : ℕ) → m ≤ a + b → upto m a b ≡ m
upto_top m a b le = by (nat_le (a + b) m) refl
  where
    by : (c : Bool) → nat_le (a + b) m ≡ c → upto m a b ≡ m
    by true e = let same : a + b ≡ m = grind (arith, nat_tests, e, le) in ap (λ c. cond c (a + b) m) e ∙ same
    by false e = ap (λ c. cond c (a + b) m) e

upto_swap : (m a : ℕ) → upto m a 0 ≡ upto m 0 a
upto_swap m a = let same : a + 0 ≡ 0 + a = omega (arith) in ap (λ n. cond (nat_le n m) n m) same

upto_thrice : (m a b c : ℕ) → upto m a (upto m b c) ≡ upto m (upto m a b) c
upto_thrice m a b c = by (nat_le (b + c) m) refl (nat_le (a + b) m) refl
  where
    by : (x : Bool) → nat_le (b + c) m ≡ x → (y : Bool) → nat_le (a + b) m ≡ y → upto m a (upto m b c) ≡ upto m (upto m a b) c
    by true e true f =
        let all : a + (b + c) ≡ a + b + c = omega (arith) in
        let le : b + c ≤ m = grind (arith, nat_tests, e) in
        let lf : a + b ≤ m = grind (arith, nat_tests, f) in
        ap (upto m a) (upto_in m b c le) ∙ (ap (λ n. cond (nat_le n m) n m) all ∙ ap (λ n. upto m n c) (sym (upto_in m a b lf)))
    by true e false f =
        let le : b + c ≤ m = grind (arith, nat_tests, e) in
        let lf : m < a + b = grind (arith, nat_tests, f) in
        ap (upto m a) (upto_in m b c le) ∙ (upto_top m a (b + c) (omega (arith, lf)) ∙ (sym (upto_top m m c (omega (arith))) ∙ ap (λ n. upto m n c) (sym (upto_past m a b lf))))
    by false e true f =
        let le : m < b + c = grind (arith, nat_tests, e) in
        let lf : a + b ≤ m = grind (arith, nat_tests, f) in
        ap (upto m a) (upto_past m b c le) ∙ (upto_top m a m (omega (arith)) ∙ (sym (upto_top m (a + b) c (omega (arith, le))) ∙ ap (λ n. upto m n c) (sym (upto_in m a b lf))))
    by false e false f =
        let le : m < b + c = grind (arith, nat_tests, e) in
        let lf : m < a + b = grind (arith, nat_tests, f) in
        ap (upto m a) (upto_past m b c le) ∙ (upto_top m a m (omega (arith)) ∙ (sym (upto_top m m c (omega (arith))) ∙ ap (λ n. upto m n c) (sym (upto_past m a b lf))))

-- ---- the last shard is counted last
asked_last : (i : ℕ) (ns : List (Node View)) (n : Node View) → asked_all i (ns ++ n ∷ []) ≡ counted (asked_all i ns) (asked_of i n)
asked_last i [] n = upto_swap last_number (asked_of i n)
asked_last i (x ∷ ns) n = ap (counted (asked_of i x)) (asked_last i ns n) ∙ upto_thrice last_number (asked_of i x) (asked_all i ns) (asked_of i n)

pub asked_more : (i : ℕ) (vs : List ViewDomain) (j : ℕ) (d : ViewDomain) (total more : ℕ) → j < length vs → total ≡ asked_all i (map view_node (take j vs)) → more ≡ asked_of i (view_node (slice_index_or vs j d))
    → counted total more ≡ asked_all i (map view_node (take (j + 1) vs))
asked_more i vs j d total more lt before is =
    let n = view_node (slice_index_or vs j d) in
    ap (λ t. counted t more) before ∙ (ap (counted (asked_all i (map view_node (take j vs)))) is ∙ (sym (asked_last i (map view_node (take j vs)) n) ∙ ap (asked_all i) (sym (map_more view_node vs j d lt))))

pub asked_whole : (i : ℕ) (vs : List ViewDomain) (j : ℕ) → length vs ≤ j → asked_all i (map view_node (take j vs)) ≡ asked_all i (map view_node vs)
asked_whole i vs j le = ap (λ xs. asked_all i (map view_node xs)) (take_all j vs le)

-- ---- for a session
module _ {F : Type 0} (log : F → LogView) (authors : F → List Author) where
  pub counts : (h : Held F) (se : ℕ) (view : List ℕ) (i n : ℕ) (q : Layout) → q ≡ h.plan → IsPlaced log authors h → se < length h.sessions → view_named q view ≡ Some i → n ≡ asked_all i (map view_node h.views)
      → IsDone log authors (count_by (world_of log authors h) (slice_get (world_of log authors h).callers se) view) (asked n) h
  counts h se view i n q same p lt named is =
      let w = world_of log authors h in
      let s = stands h.sessions se lt in
      let there : slice_get w.callers se ≡ Some (s.0).is = map_get (λ (x : Session). x.is) h.sessions se s.0 s.1 in
      let all : count_by w (slice_get w.callers se) view ≡ count_in w (Some i) None
      = ap (λ o. count_by w o view) there ∙ ap (λ v. count_in w v (view_refusal v)) (subst (λ q. view_named q view ≡ Some i) same named) in
      subst (λ x. IsDone log authors x (asked n) h) (sym all) (record { world = refl; reply = ap asked is; placed = p })

  pub count_refused : (h : Held F) (se : ℕ) (view : List ℕ) (e : Refused) (q : Layout) → q ≡ h.plan → IsPlaced log authors h → se < length h.sessions → view_refusal (view_named q view) ≡ Some e
      → IsDone log authors (count_by (world_of log authors h) (slice_get (world_of log authors h).callers se) view) (refused e) h
  count_refused h se view e q same p lt why =
      let w = world_of log authors h in
      answered log authors h se (λ o. count_by w o view) (refused e) (λ c. ap (count_in w (view_named h.plan view)) (subst (λ q. view_refusal (view_named q view) ≡ Some e) same why)) p lt

-- What the writes of links leave.
use Rattle.std.proofs.Common.{◌≡◌, ℕ, zero, suc, ◌+◌, ◌-◌, ◌^◌, ◌<◌, ◌==◌, inl, inr, List, [], ◌∷◌, length, map, get_or, set, take, swap_remove, refl, sym, ap, subst, ◌∙◌, arith, if◌then◌else◌, get_or-set_same, get_or-set_other, get_or-take, length-set}
use Rattle.std.proofs.lemmas.Bool.{cases_eq}
use Rattle.std.proofs.lemmas.List.{get_or_default}
use Rattle.linked_map.specs.Orders.{times, without, renamed, IsOrder}
use Rattle.linked_map.specs.Rings.{no_link, older_at, newer_at, with_older, with_newer, parted, joined, told, order_of, walk, Runs, IsCycle, IsRing}
use Rattle.linked_map.specs.declared.ring.Link.{Link}
use Rattle.linked_map.proofs.Counting.{one_if, if_same, if_apart, times-same, times-apart, times-le, times-without, Each, Each-from, none_is}
use Rattle.linked_map.proofs.Cycles.{walk-Runs, cycle_ahead, cycle_behind, told_older, told_newer, cut, ends_behind, leads_to, cycle_carries}

module _ (links : List Link) (p x q : ℕ) (inside : p < length links) where
  older-with_older : older_at (with_older links p x) q ≡ (if q == p then x else older_at links q)
  older-with_older = elim (cases_eq q p) [
    | inl e ↦ ap (λ (l : Link). l.older) (ap (λ z. get_or (with_older links p x) z no_link) e ∙ get_or-set_same links p _ no_link inside) ∙ sym (if_same q p x (older_at links q) e)
    | inr e ↦ ap (λ (l : Link). l.older) (get_or-set_other links p q _ no_link e) ∙ sym (if_apart q p x (older_at links q) e)
  ]

  newer-with_older : newer_at (with_older links p x) q ≡ newer_at links q
  newer-with_older = elim (cases_eq q p) [
    | inl e ↦ ap (λ (l : Link). l.newer) (ap (λ z. get_or (with_older links p x) z no_link) e ∙ get_or-set_same links p _ no_link inside) ∙ ap (newer_at links) (sym e)
    | inr e ↦ ap (λ (l : Link). l.newer) (get_or-set_other links p q _ no_link e)
  ]

  newer-with_newer : newer_at (with_newer links p x) q ≡ (if q == p then x else newer_at links q)
  newer-with_newer = elim (cases_eq q p) [
    | inl e ↦ ap (λ (l : Link). l.newer) (ap (λ z. get_or (with_newer links p x) z no_link) e ∙ get_or-set_same links p _ no_link inside) ∙ sym (if_same q p x (newer_at links q) e)
    | inr e ↦ ap (λ (l : Link). l.newer) (get_or-set_other links p q _ no_link e) ∙ sym (if_apart q p x (newer_at links q) e)
  ]

  older-with_newer : older_at (with_newer links p x) q ≡ older_at links q
  older-with_newer = elim (cases_eq q p) [
    | inl e ↦ ap (λ (l : Link). l.older) (ap (λ z. get_or (with_newer links p x) z no_link) e ∙ get_or-set_same links p _ no_link inside) ∙ ap (older_at links) (sym e)
    | inr e ↦ ap (λ (l : Link). l.older) (get_or-set_other links p q _ no_link e)
  ]

pub length-with_older : (links : List Link) (p x : ℕ) → length (with_older links p x) ≡ length links
length-with_older links p x = length-set links p _

pub length-with_newer : (links : List Link) (p x : ℕ) → length (with_newer links p x) ≡ length links
length-with_newer links p x = length-set links p _

pub length-parted : (links : List Link) (p : ℕ) → length (parted links p) ≡ length links
unfolding parted
length-parted links p = length-with_newer _ _ _ ∙ length-with_older links _ _

pub length-told : (links : List Link) (p q : ℕ) → length (told links p q) ≡ length links
unfolding told
length-told links p q = length-with_newer _ _ _ ∙ length-with_older links _ _

pub length-joined : (links : List Link) (p first : ℕ) → length (joined links p first) ≡ length links
unfolding joined
length-joined links p first = length-with_newer _ _ _ ∙ length-with_older _ _ _ ∙ length-with_newer _ _ _ ∙ length-with_older links _ _

module _ (links : List Link) (p q : ℕ) (newer_in : newer_at links p < length links) (older_in : older_at links p < length links) where
  pub older-parted : older_at (parted links p) q ≡ (if q == newer_at links p then older_at links p else older_at links q)
  unfolding parted
  older-parted =
      older-with_newer (with_older links (newer_at links p) (older_at links p)) (older_at links p) (newer_at links p) q (let n = length-with_older links (newer_at links p) (older_at links p) in omega (arith, n, older_in))
      ∙ older-with_older links (newer_at links p) (older_at links p) q newer_in

  pub newer-parted : newer_at (parted links p) q ≡ (if q == older_at links p then newer_at links p else newer_at links q)
  unfolding parted
  newer-parted =
      newer-with_newer (with_older links (newer_at links p) (older_at links p)) (older_at links p) (newer_at links p) q (let n = length-with_older links (newer_at links p) (older_at links p) in omega (arith, n, older_in))
      ∙ ap (λ z. if q == older_at links p then newer_at links p else z) (newer-with_older links (newer_at links p) (older_at links p) q newer_in)

module _ (links : List Link) (p x q : ℕ) (newer_in : newer_at links p < length links) (older_in : older_at links p < length links) where
  older-told : older_at (told links p x) q ≡ (if q == newer_at links p then x else older_at links q)
  unfolding told
  older-told =
      older-with_newer (with_older links (newer_at links p) x) (older_at links p) x q (let n = length-with_older links (newer_at links p) x in omega (arith, n, older_in))
      ∙ older-with_older links (newer_at links p) x q newer_in

  newer-told : newer_at (told links p x) q ≡ (if q == older_at links p then x else newer_at links q)
  unfolding told
  newer-told =
      newer-with_newer (with_older links (newer_at links p) x) (older_at links p) x q (let n = length-with_older links (newer_at links p) x in omega (arith, n, older_in))
      ∙ ap (λ z. if q == older_at links p then x else z) (newer-with_older links (newer_at links p) x q newer_in)

module _ (links : List Link) (i p q : ℕ) (i_in : i < length links) (p_in : p < length links) (last_in : newer_at links p < length links) where
  abbrev one : List Link
  one = with_older links i p

  abbrev two : List Link
  two = with_newer one i (newer_at links p)

  abbrev three : List Link
  three = with_older two (newer_at links p) i

  one_in : i < length one
  one_in = let n = length-with_older links i p in omega (arith, n, i_in)

  two_in : newer_at links p < length two
  two_in = let n = length-with_older links i p in let m = length-with_newer one i (newer_at links p) in omega (arith, n, m, last_in)

  three_in : p < length three
  three_in = let n = length-with_older links i p in let m = length-with_newer one i (newer_at links p) in let k = length-with_older two (newer_at links p) i in omega (arith, n, m, k, p_in)

  older-joined : older_at (joined links i p) q ≡ (if q == newer_at links p then i else (if q == i then p else older_at links q))
  unfolding joined
  older-joined =
      older-with_newer three p i q three_in
      ∙ older-with_older two (newer_at links p) i q two_in
      ∙ ap (λ z. if q == newer_at links p then i else z) (older-with_newer one i (newer_at links p) q one_in ∙ older-with_older links i p q i_in)

  newer-joined : newer_at (joined links i p) q ≡ (if q == p then i else (if q == i then newer_at links p else newer_at links q))
  unfolding joined
  newer-joined =
      newer-with_newer three p i q three_in
      ∙ ap (λ z. if q == p then i else z) (newer-with_older two (newer_at links p) i q two_in
      ∙ newer-with_newer one i (newer_at links p) q one_in
      ∙ ap (λ z. if q == i then newer_at links p else z) (newer-with_older links i p q i_in))

-- ---- cycles
abbrev pub Cycle : List Link → List ℕ → Type 0
Cycle links ps = IsCycle (older_at links) (newer_at links) ps

-- all positions of the list are below n
abbrev pub Below : ℕ → List ℕ → Type 0
Below n ps = (q : ℕ) → 0 < times q ps → q < n

module _ (links : List Link) (ps : List ℕ) (i : ℕ) (cycle : Cycle links ps) (below : Below (length links) ps) (there : times i ps ≡ 1) where
  in_ps : 0 < times i ps
  in_ps = omega (arith, there)

  pub older_inside : older_at links i < length links
  older_inside = below (older_at links i) (cycle_ahead (older_at links) (newer_at links) ps i cycle in_ps).1

  pub newer_inside : newer_at links i < length links
  newer_inside = below (newer_at links i) (cycle_behind (older_at links) (newer_at links) ps i cycle in_ps).1

  -- what a neighbour is told
  off_parted : (q : ℕ) → 0 < times q ps → (older_at (parted links i) q ≡ renamed i (older_at links i) (older_at links q)) × (newer_at (parted links i) q ≡ renamed i (newer_at links i) (newer_at links q))
  off_parted q h = (
    older-parted links i q newer_inside older_inside ∙ told_older (older_at links) (newer_at links) ps cycle i q _ _ in_ps h,
    newer-parted links i q newer_inside older_inside ∙ told_newer (older_at links) (newer_at links) ps cycle i q _ _ in_ps h,
  )

parted_first : (links : List Link) (i : ℕ) (rest : List ℕ) → Cycle links (i ∷ rest) → Below (length links) (i ∷ rest) → times i (i ∷ rest) ≡ 1 → Cycle (parted links i) rest
parted_first links i [] cycle below there = tt
parted_first links i (y ∷ ys) cycle below there =
    let none : times i (y ∷ ys) ≡ 0 = (let n = times-same i i (y ∷ ys) refl in omega (arith, n, there)) in
    let P : ℕ → Type 0 = λ q. 0 < times q (y ∷ ys) in
    let all = Each-from P (y ∷ ys) (λ q h. h) in
    let off = λ (q : ℕ) (h : P q). off_parted links (i ∷ y ∷ ys) i cycle below there q (let n = times-le q i (y ∷ ys) in omega (arith, n, h)) in
    let run = ends_behind (older_at links) (newer_at links) (older_at (parted links i)) (newer_at (parted links i)) i P (none_is i (y ∷ ys) none) off y ys all.0 all.1
    (subst P (sym cycle.0.0) all.0) (ap (newer_at links) cycle.0.0 ∙ cycle.0.1) cycle.1 in
    subst (Runs (older_at (parted links i)) (newer_at (parted links i)) y ys) cycle.0.0 run

-- the others, once the neighbours of i are linked
pub parted_cycle : (links : List Link) (ps : List ℕ) (i : ℕ) → Cycle links ps → Below (length links) ps → times i ps ≡ 1 → Cycle (parted links i) (without i ps)
parted_cycle links [] i cycle below there = absurd (omega (arith, there))
parted_cycle links (p ∷ rest) i cycle below there = elim (cases_eq p i) [
  | inl e ↦ let is : without i (p ∷ rest) ≡ rest = if_same p i rest (p ∷ without i rest) e in
      subst (Cycle (parted links i)) (sym is) (parted_first links i rest (subst (λ z. Cycle links (z ∷ rest)) e cycle) (subst (λ z. Below (length links) (z ∷ rest)) e below) (subst (λ z. times i (z ∷ rest) ≡ 1) e there))
  | inr e ↦ let is : without i (p ∷ rest) ≡ p ∷ without i rest = if_apart p i rest (p ∷ without i rest) e in
      let P : ℕ → Type 0 = λ q. 0 < times q (p ∷ without i rest) in
      let all = Each-from P (p ∷ without i rest) (λ q h. h) in
      let t = λ (q : ℕ). subst (λ l. times q l + one_if i q ≡ times q (p ∷ rest)) is (times-without i q (p ∷ rest) (omega (arith, there))) in
      let apart = none_is i (p ∷ without i rest) (let s = t i in let o = if_same {A = ℕ} i i 1 0 refl in omega (arith, s, o, there)) in
      let off = λ (q : ℕ) (h : P q). off_parted links (p ∷ rest) i cycle below there q (let s = t q in omega (arith, s, h)) in
      subst (Cycle (parted links i)) (sym is) (cut (older_at links) (newer_at links) (older_at (parted links i)) (newer_at (parted links i)) i P apart off p rest p all.0 all.1 all.0 (let n = times-apart i p rest e in omega (arith, n, there)) cycle)
]

-- a position alone, linked with itself
pub joined_alone : (links : List Link) (i : ℕ) → i < length links → newer_at links i < length links → Cycle (joined links i i) (i ∷ [])
joined_alone links i inside last = (
  older-joined links i i i inside inside last ∙ (elim (cases_eq i (newer_at links i)) [
    | inl e ↦ if_same i (newer_at links i) _ _ e
    | inr e ↦ if_apart i (newer_at links i) _ _ e ∙ if_same i i _ _ refl
  ]),
  newer-joined links i i i inside inside last ∙ if_same i i _ _ refl,
)

-- a position more, linked in before the first
pub joined_cycle : (links : List Link) (p : ℕ) (rest : List ℕ) (i : ℕ) → Cycle links (p ∷ rest) → Below (length links) (p ∷ rest) → times p (p ∷ rest) ≡ 1 → times i (p ∷ rest) ≡ 0 → i < length links
    → Cycle (joined links i p) (i ∷ p ∷ rest)
joined_cycle links p rest i cycle below there none inside =
    let o = older_at links in
    let w = newer_at links in
    let P : ℕ → Type 0 = λ q. 0 < times q (p ∷ rest) in
    let all = Each-from P (p ∷ rest) (λ q h. h) in
    let p_in = below p all.0 in
    let last_there = (cycle_behind o w (p ∷ rest) p cycle all.0).1 in
    let last_in = below (w p) last_there in
    let apart = none_is i (p ∷ rest) none in
    let others : Each (λ q. q ≡ p → ⊥) rest = Each-from _ rest (none_is p rest (let n = times-same p p rest refl in omega (arith, n, there))) in
    let old = λ (q : ℕ). older-joined links i p q inside p_in last_in in
    let new = λ (q : ℕ). newer-joined links i p q inside p_in last_in in
    let ip : i ≡ p → ⊥ = (λ e. apart p all.0 (sym e)) in
    let off : (q : ℕ) → P q → (older_at (joined links i p) q ≡ renamed p i (o q)) × ((q ≡ p → ⊥) → newer_at (joined links i p) q ≡ w q) = λ q h. (
      old q ∙ ap (λ z. if q == w p then i else z) (if_apart q i p (o q) (apart q h)) ∙ told_older o w (p ∷ rest) cycle p q i (o q) all.0 h,
      λ (e : q ≡ p → ⊥). new q ∙ if_apart q p _ _ e ∙ if_apart q i _ _ (apart q h),
    ) in
    let last : newer_at (joined links i p) i ≡ w p = new i ∙ if_apart i p _ _ ip ∙ if_same i i _ _ refl in (
      (old i ∙ if_apart i (w p) _ _ (λ e. apart (w p) last_there (sym e)) ∙ if_same i i _ _ refl, new p ∙ if_same p p _ _ refl),
      leads_to o w (older_at (joined links i p)) (newer_at (joined links i p)) i p P off last p rest all.0 all.1 others cycle,
    )

-- ---- the last position goes by the number i
pub moved_item : {A : Type 0} (xs : List A) (i q : ℕ) (d e : A) → i < length xs → q < length xs → (q ≡ i → ⊥) → get_or (swap_remove xs i d) (renamed (length xs - 1) i q) e ≡ get_or xs q e
moved_item xs i q d e inside below apart =
    let m = length xs - 1 in
    let put = set xs i (get_or xs m d) in
    elim (cases_eq q m) [
      | inl f ↦ ap (λ z. get_or (take m put) z e) (if_same q m i q f)
          ∙ get_or-take m put i e (let ne : m ≡ i → ⊥ = (λ g. apart (f ∙ g)) in omega (arith, inside, ne))
          ∙ get_or-set_same xs i _ e inside
          ∙ get_or_default xs m d e (omega (arith, inside))
          ∙ ap (λ z. get_or xs z e) (sym f)
      | inr f ↦ ap (λ z. get_or (take m put) z e) (if_apart q m i q f)
          ∙ get_or-take m put q e (omega (arith, below, f))
          ∙ get_or-set_other xs i q _ e apart
    ]

-- the links after `rename`
abbrev pub told_or_same : List Link → ℕ → ℕ → List Link
told_or_same links m i = if m == i then links else told links m i

pub length-told_or_same : (links : List Link) (m i : ℕ) → length (told_or_same links m i) ≡ length links
length-told_or_same links m i = elim (cases_eq m i) [
  | inl e ↦ ap length (if_same m i links (told links m i) e)
  | inr e ↦ ap length (if_apart m i links (told links m i) e) ∙ length-told links m i
]

module _ (links : List Link) (ps : List ℕ) (i : ℕ) (d : Link) (cycle : Cycle links ps) (below : Below (length links) ps) (inside : i < length links) (none : times i ps ≡ 0)
    (there : (length links - 1 ≡ i → ⊥) → 0 < times (length links - 1) ps) where
  abbrev m : ℕ
  m = length links - 1

  told_off : (q : ℕ) → 0 < times q ps → (older_at (told_or_same links m i) q ≡ renamed m i (older_at links q)) × (newer_at (told_or_same links m i) q ≡ renamed m i (newer_at links q))
  told_off q h = elim (cases_eq m i) [
    | inl e ↦ let is : told_or_same links m i ≡ links = if_same m i links (told links m i) e in
        let keeps : (x : ℕ) → x ≡ renamed m i x = (λ x. elim (cases_eq x m) [
          | inl f ↦ f ∙ e ∙ sym (if_same x m i x f)
          | inr f ↦ sym (if_apart x m i x f)
        ]) in
        (ap (λ l. older_at l q) is ∙ keeps (older_at links q), ap (λ l. newer_at l q) is ∙ keeps (newer_at links q))
    | inr e ↦ let is : told_or_same links m i ≡ told links m i = if_apart m i links (told links m i) e in
        let o = older_at links in
        let w = newer_at links in
        let mt = there e in
        let newer_in = below (w m) (cycle_behind o w ps m cycle mt).1 in
        let older_in = below (o m) (cycle_ahead o w ps m cycle mt).1 in (
          ap (λ l. older_at l q) is ∙ older-told links m i q newer_in older_in ∙ told_older o w ps cycle m q i (o q) mt h,
          ap (λ l. newer_at l q) is ∙ newer-told links m i q newer_in older_in ∙ told_newer o w ps cycle m q i (w q) mt h,
        )
  ]

  pub removed_cycle : Cycle (swap_remove (told_or_same links m i) i d) (map (renamed m i) ps)
  removed_cycle =
      let t = told_or_same links m i in
      let n = length-told_or_same links m i in
      let at = λ (q : ℕ) (h : 0 < times q ps). (
      let l = moved_item t i q d no_link (omega (arith, n, inside)) (let b = below q h in omega (arith, n, b)) (none_is i ps none q h) in
      subst (λ k. get_or (swap_remove t i d) (renamed (k - 1) i q) no_link ≡ get_or t q no_link) n l) in
      cycle_carries (older_at links) (newer_at links) (older_at (swap_remove t i d)) (newer_at (swap_remove t i d)) (renamed m i) (λ q. 0 < times q ps)
      (λ q h. (ap (λ (l : Link). l.older) (at q h) ∙ (told_off q h).0, ap (λ (l : Link). l.newer) (at q h) ∙ (told_off q h).1)) ps (Each-from _ ps (λ q h. h)) cycle

-- ---- rings
abbrev pub StartsAt : ℕ → List ℕ → Type 0
StartsAt p [] = Unit {0}
StartsAt p (q ∷ qs) = q ≡ p

pub order_is : (links : List Link) (latest : ℕ) (ps : List ℕ) → length ps ≡ length links → StartsAt latest ps → Cycle links ps → order_of links latest ≡ ps
order_is links latest [] n s cycle = ap (λ k. walk (older_at links) k latest) (sym n)
order_is links latest (p ∷ ps) n s cycle =
    ap (λ k. walk (older_at links) k latest) (sym n) ∙ ap (walk (older_at links) (suc (length ps))) (sym s) ∙ walk-Runs (older_at links) (newer_at links) p ps p cycle

pub ring_is : (links : List Link) (latest : ℕ) (ps : List ℕ) → length links < 2 ^ 32 → IsOrder ps → length ps ≡ length links → StartsAt latest ps → Cycle links ps → IsRing links latest
ring_is links latest ps small order n s cycle =
    let is = order_is links latest ps n s cycle in
    record { small = small; order = subst IsOrder (sym is) order; cycle = subst (Cycle links) (sym is) cycle }

pub length-walk : (o : ℕ → ℕ) (n p : ℕ) → length (walk o n p) ≡ n
length-walk o zero p = refl
length-walk o (suc n) p = ap suc (length-walk o n (o p))

pub starts_at : (o : ℕ → ℕ) (n p : ℕ) → StartsAt p (walk o n p)
starts_at o zero p = tt
starts_at o (suc n) p = refl

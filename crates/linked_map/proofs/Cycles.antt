-- Runs of links: where they lead, and what a change of links makes of them.
use Rattle.std.proofs.Common.{◌≡◌, ℕ, suc, ◌<◌, ◌==◌, ◌⊎◌, inl, inr, List, [], ◌∷◌, length, map, refl, sym, ap, subst, ◌∙◌, arith, if◌then◌else◌}
use Rattle.std.proofs.lemmas.Bool.{cases_eq}
use Rattle.linked_map.specs.Orders.{times, without, renamed}
use Rattle.linked_map.specs.Rings.{walk, Runs, IsCycle}
use Rattle.linked_map.proofs.Counting.{if_same, if_apart, times-same, times-apart, times-le, first_or_later, Each}

module _ (o w : ℕ → ℕ) where
  pub walk-Runs : (a : ℕ) (xs : List ℕ) (b : ℕ) → Runs o w a xs b → walk o (suc (length xs)) a ≡ a ∷ xs
  walk-Runs a [] b r = refl
  walk-Runs a (x ∷ xs) b r = ap (λ l. a ∷ l) (ap (walk o (suc (length xs))) r.0.0 ∙ walk-Runs x xs b r.1)

  pub ahead : (a : ℕ) (xs : List ℕ) (b q : ℕ) → Runs o w a xs b → 0 < times q (a ∷ xs) → (w (o q) ≡ q) × ((0 < times (o q) xs) ⊎ (o q ≡ b))
  ahead a [] b q r h = elim (first_or_later q a [] h) [
    | inl e ↦ (ap (λ z. w (o z)) (sym e) ∙ ap w r.0 ∙ r.1 ∙ e, inr (ap o (sym e) ∙ r.0))
    | inr l ↦ absurd (omega (arith, l))
  ]
  ahead a (x ∷ xs) b q r h = elim (first_or_later q a (x ∷ xs) h) [
    | inl e ↦ (ap (λ z. w (o z)) (sym e) ∙ ap w r.0.0 ∙ r.0.1 ∙ e, inl (let at : x ≡ o q = sym r.0.0 ∙ ap o e in let n = times-same (o q) x xs at in omega (arith, n)))
    | inr l ↦ (let rest = ahead x xs b q r.1 l in (
      rest.0,
      elim rest.1 [
        | inl m ↦ inl (let n = times-le (o q) x xs in omega (arith, n, m))
        | inr e ↦ inr e
      ],
    ))
  ]

  pub behind : (a : ℕ) (xs : List ℕ) (b q : ℕ) → Runs o w a xs b → (0 < times q xs) ⊎ (q ≡ b) → (o (w q) ≡ q) × (0 < times (w q) (a ∷ xs))
  behind a [] b q r h = elim h [
    | inl l ↦ absurd (omega (arith, l))
    | inr e ↦ (ap (λ z. o (w z)) e ∙ ap o r.1 ∙ r.0 ∙ sym e, let at : a ≡ w q = sym r.1 ∙ ap w (sym e) in let n = times-same (w q) a [] at in omega (arith, n))
  ]
  behind a (x ∷ xs) b q r h =
      let later : (0 < times q xs) ⊎ (q ≡ b) → (o (w q) ≡ q) × (0 < times (w q) (a ∷ x ∷ xs)) = (λ k. let rest = behind x xs b q r.1 k in (rest.0, let n = times-le (w q) a (x ∷ xs) in omega (arith, n, rest.1))) in
      elim h [
        | inl l ↦ elim (first_or_later q x xs l) [
          | inl e ↦ (ap (λ z. o (w z)) (sym e) ∙ ap o r.0.1 ∙ r.0.0 ∙ e, let at : a ≡ w q = sym r.0.1 ∙ ap w e in let n = times-same (w q) a (x ∷ xs) at in omega (arith, n))
          | inr m ↦ later (inl m)
        ]
        | inr e ↦ later (inr e)
      ]

  -- each position of a cycle has its neighbours there, and is their neighbour
  pub cycle_ahead : (ps : List ℕ) (q : ℕ) → IsCycle o w ps → 0 < times q ps → (w (o q) ≡ q) × (0 < times (o q) ps)
  cycle_ahead [] q r h = absurd (omega (arith, h))
  cycle_ahead (p ∷ ps) q r h = let a = ahead p ps p q r h in (
    a.0,
    elim a.1 [
      | inl m ↦ (let n = times-le (o q) p ps in omega (arith, n, m))
      | inr e ↦ (let n = times-same (o q) p ps (sym e) in omega (arith, n))
    ],
  )

  pub cycle_behind : (ps : List ℕ) (q : ℕ) → IsCycle o w ps → 0 < times q ps → (o (w q) ≡ q) × (0 < times (w q) ps)
  cycle_behind [] q r h = absurd (omega (arith, h))
  cycle_behind (p ∷ ps) q r h = behind p ps p q r (elim (first_or_later q p ps h) [
    | inl e ↦ inr (sym e)
    | inr l ↦ inl l
  ])

  -- of what is told to the neighbour of m, by the one link or by the other
  pub told_older : {A : Type 0} (ps : List ℕ) → IsCycle o w ps → (m q : ℕ) (x y : A) → 0 < times m ps → 0 < times q ps → (if q == w m then x else y) ≡ (if o q == m then x else y)
  told_older ps r m q x y hm hq = elim (cases_eq q (w m)) [
    | inl e ↦ if_same q (w m) x y e ∙ sym (if_same (o q) m x y (ap o e ∙ (cycle_behind ps m r hm).0))
    | inr e ↦ if_apart q (w m) x y e ∙ sym (if_apart (o q) m x y (λ f. e (sym (cycle_ahead ps q r hq).0 ∙ ap w f)))
  ]

  pub told_newer : {A : Type 0} (ps : List ℕ) → IsCycle o w ps → (m q : ℕ) (x y : A) → 0 < times m ps → 0 < times q ps → (if q == o m then x else y) ≡ (if w q == m then x else y)
  told_newer ps r m q x y hm hq = elim (cases_eq q (o m)) [
    | inl e ↦ if_same q (o m) x y e ∙ sym (if_same (w q) m x y (ap w e ∙ (cycle_ahead ps m r hm).0))
    | inr e ↦ if_apart q (o m) x y e ∙ sym (if_apart (w q) m x y (λ f. e (sym (cycle_behind ps q r hq).0 ∙ ap o f)))
  ]

-- new links that pass i by
module _ (o w o1 w1 : ℕ → ℕ) (i : ℕ) (P : ℕ → Type 0) (apart : (q : ℕ) → P q → q ≡ i → ⊥)
    (off : (q : ℕ) → P q → (o1 q ≡ renamed i (o i) (o q)) × (w1 q ≡ renamed i (w i) (w q))) where
  link : (a b : ℕ) → P a → P b → o a ≡ b → w b ≡ a → (o1 a ≡ b) × (w1 b ≡ a)
  link a b pa pb e f = (
    (off a pa).0 ∙ if_apart (o a) i (o i) (o a) (λ g. apart b pb (sym e ∙ g)) ∙ e,
    (off b pb).1 ∙ if_apart (w b) i (w i) (w b) (λ g. apart a pa (sym f ∙ g)) ∙ f,
  )

  stays : (a : ℕ) (xs : List ℕ) (b : ℕ) → P a → Each P xs → P b → Runs o w a xs b → Runs o1 w1 a xs b
  stays a [] b pa ps pb r = link a b pa pb r.0 r.1
  stays a (x ∷ xs) b pa ps pb r = (link a x pa ps.0 r.0.0 r.0.1, stays x xs b ps.0 ps.1 pb r.1)

  skips : (a : ℕ) (xs : List ℕ) (b : ℕ) → P a → Each P xs → P b → o a ≡ i → w i ≡ a → Runs o w i xs b → Runs o1 w1 a xs b
  skips a [] b pa ps pb e f r =
      ((off a pa).0 ∙ if_same (o a) i (o i) (o a) e ∙ r.0, (off b pb).1 ∙ if_same (w b) i (w i) (w b) r.1 ∙ f)
  skips a (y ∷ ys) b pa ps pb e f r =
      (((off a pa).0 ∙ if_same (o a) i (o i) (o a) e ∙ r.0.0, (off y ps.0).1 ∙ if_same (w y) i (w i) (w y) r.0.1 ∙ f), stays y ys b ps.0 ps.1 pb r.1)

  pub cut : (a : ℕ) (xs : List ℕ) (b : ℕ) → P a → Each P (without i xs) → P b → 0 < times i xs → Runs o w a xs b → Runs o1 w1 a (without i xs) b
  cut a [] b pa ps pb h r = absurd (omega (arith, h))
  cut a (x ∷ xs) b pa ps pb h r = elim (cases_eq x i) [
    | inl e ↦ let is : without i (x ∷ xs) ≡ xs = if_same x i xs (x ∷ without i xs) e in
        subst (λ l. Runs o1 w1 a l b) (sym is) (skips a xs b pa (subst (Each P) is ps) pb (r.0.0 ∙ e) (ap w (sym e) ∙ r.0.1) (subst (λ z. Runs o w z xs b) e r.1))
    | inr e ↦ let is : without i (x ∷ xs) ≡ x ∷ without i xs = if_apart x i xs (x ∷ without i xs) e in
        let qs = subst (Each P) is ps in
        subst (λ l. Runs o1 w1 a l b) (sym is) (link a x pa qs.0 r.0.0 r.0.1, cut x xs b qs.0 qs.1 pb (let n = times-apart i x xs e in omega (arith, n, h)) r.1)
  ]

  pub ends_behind : (a : ℕ) (xs : List ℕ) → P a → Each P xs → P (o i) → w (o i) ≡ i → Runs o w a xs i → Runs o1 w1 a xs (o i)
  ends_behind a [] pa ps pb f r =
      ((off a pa).0 ∙ if_same (o a) i (o i) (o a) r.0, (off (o i) pb).1 ∙ if_same (w (o i)) i (w i) (w (o i)) f ∙ r.1)
  ends_behind a (x ∷ xs) pa ps pb f r = (link a x pa ps.0 r.0.0 r.0.1, ends_behind x xs ps.0 ps.1 pb f r.1)

-- new links by which i comes behind the last, in the place of p
module _ (o w o2 w2 : ℕ → ℕ) (i p : ℕ) (P : ℕ → Type 0)
    (off : (q : ℕ) → P q → (o2 q ≡ renamed p i (o q)) × ((q ≡ p → ⊥) → w2 q ≡ w q)) (last : w2 i ≡ w p) where
  pub leads_to : (a : ℕ) (xs : List ℕ) → P a → Each P xs → Each (λ q. q ≡ p → ⊥) xs → Runs o w a xs p → Runs o2 w2 a xs i
  leads_to a [] pa ps ne r = ((off a pa).0 ∙ if_same (o a) p i (o a) r.0, last ∙ r.1)
  leads_to a (x ∷ xs) pa ps ne r =
      (((off a pa).0 ∙ if_apart (o a) p i (o a) (λ e. ne.0 (sym r.0.0 ∙ e)) ∙ r.0.0, (off x ps.0).1 ne.0 ∙ r.0.1), leads_to x xs ps.0 ps.1 ne.1 r.1)

-- links between positions that go by other numbers
module _ (o w o3 w3 f : ℕ → ℕ) (P : ℕ → Type 0) (off : (q : ℕ) → P q → (o3 (f q) ≡ f (o q)) × (w3 (f q) ≡ f (w q))) where
  carries : (a : ℕ) (xs : List ℕ) (b : ℕ) → P a → Each P xs → P b → Runs o w a xs b → Runs o3 w3 (f a) (map f xs) (f b)
  carries a [] b pa ps pb r = ((off a pa).0 ∙ ap f r.0, (off b pb).1 ∙ ap f r.1)
  carries a (x ∷ xs) b pa ps pb r = (((off a pa).0 ∙ ap f r.0.0, (off x ps.0).1 ∙ ap f r.0.1), carries x xs b ps.0 ps.1 pb r.1)

  pub cycle_carries : (ps : List ℕ) → Each P ps → IsCycle o w ps → IsCycle o3 w3 (map f ps)
  cycle_carries [] h r = tt
  cycle_carries (p ∷ ps) h r = carries p ps p h.0 h.1 h.0 r

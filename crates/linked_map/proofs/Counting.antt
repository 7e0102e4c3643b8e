-- How often a position is in a list.
use Rattle.std.proofs.Common.{◌≡◌, ℕ, suc, ◌+◌, ◌-◌, ◌<◌, ◌≤◌, ◌==◌, ◌⊎◌, inl, inr, List, [], ◌∷◌, length, map, refl, sym, ap, subst, ◌∙◌, arith, eq-eqb, ne_eqb, if◌then◌else◌, nat_lt}
use Rattle.std.proofs.lemmas.Bool.{cases_eq}
use Rattle.std.proofs.lemmas.Bool.Decides.{nat_tests}
use Rattle.std.proofs.lemmas.List.{length-map}
use Rattle.linked_map.specs.Orders.{times, IsOrder, without, renamed}

pub if_same : {A : Type 0} (x p : ℕ) (a b : A) → x ≡ p → (if x == p then a else b) ≡ a
if_same x p a b e = rw (eq-eqb x p e) refl

pub if_apart : {A : Type 0} (x p : ℕ) (a b : A) → (x ≡ p → ⊥) → (if x == p then a else b) ≡ b
if_apart x p a b e = rw (ne_eqb x p e) refl

-- 1 where the two are the same, and else 0
abbrev pub one_if : ℕ → ℕ → ℕ
one_if x p = if x == p then 1 else 0

pub times-same : (p x : ℕ) (xs : List ℕ) → x ≡ p → times p (x ∷ xs) ≡ 1 + times p xs
times-same p x xs e = ap (λ n. n + times p xs) (if_same {A = ℕ} x p 1 0 e)

pub times-apart : (p x : ℕ) (xs : List ℕ) → (x ≡ p → ⊥) → times p (x ∷ xs) ≡ times p xs
times-apart p x xs e = let n = if_apart {A = ℕ} x p 1 0 e in omega (arith, n)

pub times-le : (p x : ℕ) (xs : List ℕ) → times p xs ≤ times p (x ∷ xs)
times-le p x xs = omega arith

-- a position of a list is its first or one of the others
pub first_or_later : (p x : ℕ) (xs : List ℕ) → 0 < times p (x ∷ xs) → (x ≡ p) ⊎ (0 < times p xs)
first_or_later p x xs h = elim (cases_eq x p) [
  | inl e ↦ inl e
  | inr e ↦ inr (let n = times-apart p x xs e in omega (arith, n, h))
]

abbrev pub Each : (ℕ → Type 0) → List ℕ → Type 0
Each P [] = Unit {0}
Each P (x ∷ xs) = P x × Each P xs

pub Each-from : (P : ℕ → Type 0) (xs : List ℕ) → ((q : ℕ) → 0 < times q xs → P q) → Each P xs
Each-from P [] h = tt
Each-from P (x ∷ xs) h = (h x (let n = times-same x x xs refl in omega (arith, n)), Each-from P xs (λ q l. h q (let n = times-le q x xs in omega (arith, n, l))))

-- a position that is not in a list is none of it
pub none_is : (i : ℕ) (xs : List ℕ) → times i xs ≡ 0 → (q : ℕ) → 0 < times q xs → q ≡ i → ⊥
none_is i xs h q l e = let m : 0 < times i xs = subst (λ r. 0 < times r xs) e l in omega (arith, m, h)

pub times-without : (i q : ℕ) (xs : List ℕ) → 0 < times i xs → times q (without i xs) + one_if i q ≡ times q xs
times-without i q [] h = absurd (omega (arith, h))
times-without i q (x ∷ xs) h = elim (cases_eq x i) [
  | inl e ↦ let w : without i (x ∷ xs) ≡ xs = if_same x i xs (x ∷ without i xs) e in
      let t : times q (without i (x ∷ xs)) ≡ times q xs = ap (times q) w in
      let s : one_if x q ≡ one_if i q = ap (λ y. if y == q then 1 else 0) e in
      omega (arith, t, s)
  | inr e ↦ let w : without i (x ∷ xs) ≡ x ∷ without i xs = if_apart x i xs (x ∷ without i xs) e in
      let t : times q (without i (x ∷ xs)) ≡ times q (x ∷ without i xs) = ap (times q) w in
      let rest = times-without i q xs (let n = times-apart i x xs e in omega (arith, n, h)) in
      omega (arith, t, rest)
]

pub length-without : (i : ℕ) (xs : List ℕ) → 0 < times i xs → suc (length (without i xs)) ≡ length xs
length-without i [] h = absurd (omega (arith, h))
length-without i (x ∷ xs) h = elim (cases_eq x i) [
  | inl e ↦ ap (λ l. suc (length l)) (if_same x i xs (x ∷ without i xs) e)
  | inr e ↦ ap (λ l. suc (length l)) (if_apart x i xs (x ∷ without i xs) e)
      ∙ ap suc (length-without i xs (let n = times-apart i x xs e in omega (arith, n, h)))
]

-- where i is not there and m goes by its number
pub times-renamed : (m i q : ℕ) (xs : List ℕ) → times i xs ≡ 0
    → times q (map (renamed m i) xs) ≡ (if q == i then times m xs else (if q == m then 0 else times q xs))
times-renamed m i q [] h = grind (arith, nat_tests)
times-renamed m i q (x ∷ xs) h =
    let rest = times-renamed m i q xs (omega (arith, h)) in
    let none : x ≡ i → ⊥ = (λ e. let n = times-same i x xs e in omega (arith, n, h)) in
    elim (cases_eq x m) [
      | inl e ↦ let r : renamed m i x ≡ i = if_same x m i x e in
          let t : times q (map (renamed m i) (x ∷ xs)) ≡ one_if i q + times q (map (renamed m i) xs) = ap (λ y. one_if y q + times q (map (renamed m i) xs)) r in
          elim (cases_eq q i) [
            | inl f ↦ let s : one_if i q ≡ 1 = if_same {A = ℕ} i q 1 0 (sym f) in
                t ∙ (rw (s, rest, if_same q i (times m xs) (if q == m then 0 else times q xs) f) (sym (if_same q i (times m (x ∷ xs)) (if q == m then 0 else times q (x ∷ xs)) f ∙ times-same m x xs e)))
            | inr f ↦ let s : one_if i q ≡ 0 = if_apart {A = ℕ} i q 1 0 (λ g. f (sym g)) in
                let u : (if q == m then 0 else times q xs) ≡ (if q == m then 0 else times q (x ∷ xs)) = elim (cases_eq q m) [
                  | inl g ↦ if_same q m 0 (times q xs) g ∙ sym (if_same q m 0 (times q (x ∷ xs)) g)
                  | inr g ↦ if_apart q m 0 (times q xs) g ∙ sym (times-apart q x xs (λ k. g (sym k ∙ e))) ∙ sym (if_apart q m 0 (times q (x ∷ xs)) g)
                ] in
                let a = if_apart q i (times m xs) (if q == m then 0 else times q xs) f in
                let b = if_apart q i (times m (x ∷ xs)) (if q == m then 0 else times q (x ∷ xs)) f in
                omega (arith, t, s, rest, u, a, b)
          ]
      | inr e ↦ let r : renamed m i x ≡ x = if_apart x m i x e in
          let t : times q (map (renamed m i) (x ∷ xs)) ≡ one_if x q + times q (map (renamed m i) xs) = ap (λ y. one_if y q + times q (map (renamed m i) xs)) r in
          elim (cases_eq q i) [
            | inl f ↦ let s : one_if x q ≡ 0 = if_apart {A = ℕ} x q 1 0 (λ g. none (g ∙ f)) in
                let a = if_same q i (times m xs) (if q == m then 0 else times q xs) f in
                let b = if_same q i (times m (x ∷ xs)) (if q == m then 0 else times q (x ∷ xs)) f in
                let d = times-apart m x xs e in
                omega (arith, t, s, rest, a, b, d)
            | inr f ↦ let a = if_apart q i (times m xs) (if q == m then 0 else times q xs) f in
                let b = if_apart q i (times m (x ∷ xs)) (if q == m then 0 else times q (x ∷ xs)) f in
                elim (cases_eq q m) [
                  | inl g ↦ let s : one_if x q ≡ 0 = if_apart {A = ℕ} x q 1 0 (λ k. e (k ∙ g)) in
                      let c = if_same q m 0 (times q xs) g in
                      let d = if_same q m 0 (times q (x ∷ xs)) g in
                      omega (arith, t, s, rest, a, b, c, d)
                  | inr g ↦ let c = if_apart q m 0 (times q xs) g in
                      let d = if_apart q m 0 (times q (x ∷ xs)) g in
                      omega (arith, t, rest, a, b, c, d)
                ]
          ]
    ]

-- ---- orders
pub is_there : (ps : List ℕ) → IsOrder ps → (p : ℕ) → p < length ps → times p ps ≡ 1
is_there ps h p l = let t = h p in grind (arith, nat_tests)

pub is_below : (ps : List ℕ) → IsOrder ps → (p : ℕ) → 0 < times p ps → p < length ps
is_below ps h p l = let t = h p in grind (arith, nat_tests)

pub at_most_once : (ps : List ℕ) → IsOrder ps → (p : ℕ) → times p ps ≤ 1
at_most_once ps h p = let t = h p in grind (arith, nat_tests)

pub order_pushed : (ps : List ℕ) → IsOrder ps → IsOrder (length ps ∷ ps)
order_pushed ps h = λ p. let t = h p in grind (arith, nat_tests)

pub order_front : (ps : List ℕ) (i : ℕ) → IsOrder ps → i < length ps → IsOrder (i ∷ without i ps)
order_front ps i h l = λ p.
    let there = is_there ps h i l in
    let t = times-without i p ps (omega (arith, there)) in
    let n = length-without i ps (omega (arith, there)) in
    (let s : times p (i ∷ without i ps) ≡ times p ps = omega (arith, t) in s) ∙ h p ∙ ap (λ k. if nat_lt p k then 1 else 0) (sym n)

pub order_removed : (ps : List ℕ) (i : ℕ) → IsOrder ps → i < length ps → IsOrder (map (renamed (length ps - 1) i) (without i ps))
order_removed ps i h l = λ p.
    let there = is_there ps h i l in
    let m = length ps - 1 in
    let gone : times i (without i ps) ≡ 0 = (let t = times-without i i ps (omega (arith, there)) in let s = if_same {A = ℕ} i i 1 0 refl in omega (arith, t, s, there)) in
    let t = times-renamed m i p (without i ps) gone in
    let tm = times-without i m ps (omega (arith, there)) in
    let tp = times-without i p ps (omega (arith, there)) in
    let hm = h m in
    let hp = h p in
    let n : length (map (renamed m i) (without i ps)) ≡ m = (let a = length-without i ps (omega (arith, there)) in let b = length-map (without i ps) (renamed m i) in omega (arith, a, b)) in
    t ∙ (let s : (if p == i then times m (without i ps) else (if p == m then 0 else times p (without i ps))) ≡ (if nat_lt p m then 1 else 0) = grind (arith, nat_tests) in s) ∙ ap (λ k. if nat_lt p k then 1 else 0) (sym n)

-- What each change of a ring leaves.
use Rattle.std.proofs.Common.{zero, ◌≡◌, ℕ, suc, ◌-◌, ◌^◌, ◌<◌, ◌==◌, inl, inr, List, [], ◌∷◌, ◌++◌, Some, length, map, get_or, slice_get, swap_remove, refl, sym, ap, subst, ◌∙◌, arith, if◌then◌else◌, map-id}
use Rattle.std.proofs.lemmas.Bool.{cases_eq}
use Rattle.std.proofs.lemmas.List.{length_push, get_or_append_left, get_or_push, length-map, length-set, length-take-le}
use Rattle.linked_map.specs.Orders.{times, without, renamed, IsOrder}
use Rattle.linked_map.specs.Rings.{no_link, older_at, newer_at, parted, joined, order_of, Runs, IsRing}
use Rattle.linked_map.specs.declared.ring.Link.{Link}
use Rattle.linked_map.proofs.Counting.{if_same, if_apart, times-same, times-without, length-without, Each-from, is_there, is_below, order_pushed, order_front, order_removed}
use Rattle.linked_map.proofs.Cycles.{cycle_carries}
use Rattle.linked_map.proofs.Links.{Cycle, Below, StartsAt, order_is, ring_is, length-walk, starts_at, length-parted, length-joined, length-told_or_same, told_or_same, parted_cycle, joined_alone, joined_cycle, removed_cycle, older_inside, newer_inside, older-parted, newer-parted}

-- a ring's links and latest position, once they are known to keep the order ps
pub record Keeps (links : List Link) (latest : ℕ) (ps : List ℕ) : Type 0 where
  pub ring : IsRing links latest
  pub order : order_of links latest ≡ ps

keeps : (links : List Link) (latest : ℕ) (ps : List ℕ) → length links < 2 ^ 32 → IsOrder ps → length ps ≡ length links → StartsAt latest ps → Cycle links ps → Keeps links latest ps
keeps links latest ps small order n s cycle = record { ring = ring_is links latest ps small order n s cycle; order = order_is links latest ps n s cycle }

last_of : (o w : ℕ → ℕ) (a : ℕ) (xs : List ℕ) (b : ℕ) → Runs o w a xs b → Some (w b) ≡ slice_get (a ∷ xs) (length xs)
last_of o w a [] b r = ap Some r.1
last_of o w a (x ∷ xs) b r = last_of o w x xs b r.1

newer_of : (o w : ℕ → ℕ) (a : ℕ) (xs : List ℕ) (b k q : ℕ) → Runs o w a xs b → slice_get (a ∷ xs) (suc k) ≡ Some q → slice_get (a ∷ xs) k ≡ Some (w q)
newer_of o w a [] b k q r h = cc
newer_of o w a (x ∷ xs) b zero q r h = let same : x ≡ q = cc in ap Some (sym r.0.1) ∙ ap (λ z. Some (w z)) same
newer_of o w a (x ∷ xs) b (suc k) q r h = newer_of o w x xs b k q r.1 h

newer_of_cycle : (links : List Link) (ps : List ℕ) (k q : ℕ) → Cycle links ps → slice_get ps (suc k) ≡ Some q → slice_get ps k ≡ Some (newer_at links q)
newer_of_cycle links [] k q cycle h = cc
newer_of_cycle links (p ∷ ps) k q cycle h = newer_of (older_at links) (newer_at links) p ps p k q cycle h

last_of_cycle : (links : List Link) (latest : ℕ) (ps : List ℕ) → 0 < length ps → StartsAt latest ps → Cycle links ps → Some (newer_at links latest) ≡ slice_get ps (length ps - 1)
last_of_cycle links latest [] h s cycle = absurd (omega (arith, h))
last_of_cycle links latest (p ∷ ps) h s cycle =
    let n : length ps ≡ length (p ∷ ps) - 1 = omega arith in
    ap (λ z. Some (newer_at links z)) (sym s) ∙ last_of (older_at links) (newer_at links) p ps p cycle ∙ ap (slice_get (p ∷ ps)) n

first_without : (latest : ℕ) (ps : List ℕ) → 0 < length ps → StartsAt latest ps → ps ≡ latest ∷ without latest ps
first_without latest [] h s = absurd (omega (arith, h))
first_without latest (p ∷ ps) h s = ap (λ z. z ∷ ps) s ∙ ap (λ l. latest ∷ l) (sym (if_same p latest ps (p ∷ without latest ps) s))

-- the others start with the latest, or, without it, with the next older one
others_start : (links : List Link) (latest i : ℕ) (ps : List ℕ) → StartsAt latest ps → Cycle links ps → StartsAt (renamed i (older_at links i) latest) (without i ps)
others_start links latest i [] s cycle = tt
others_start links latest i (p ∷ []) s cycle = elim (cases_eq p i) [
  | inl e ↦ subst (StartsAt (renamed i (older_at links i) latest)) (sym (if_same p i [] (p ∷ without i []) e)) tt
  | inr e ↦ subst (StartsAt (renamed i (older_at links i) latest)) (sym (if_apart p i [] (p ∷ without i []) e)) (s ∙ sym (if_apart latest i _ _ (λ f. e (s ∙ f))))
]
others_start links latest i (p ∷ y ∷ ys) s cycle = elim (cases_eq p i) [
  | inl e ↦ subst (StartsAt (renamed i (older_at links i) latest)) (sym (if_same p i (y ∷ ys) (p ∷ without i (y ∷ ys)) e))
      (sym cycle.0.0 ∙ ap (older_at links) e ∙ sym (if_same latest i _ _ (sym s ∙ e)))
  | inr e ↦ subst (StartsAt (renamed i (older_at links i) latest)) (sym (if_apart p i (y ∷ ys) (p ∷ without i (y ∷ ys)) e)) (s ∙ sym (if_apart latest i _ _ (λ f. e (s ∙ f))))
]

starts_map : (f : ℕ → ℕ) (p : ℕ) (ps : List ℕ) → StartsAt p ps → StartsAt (f p) (map f ps)
starts_map f p [] s = tt
starts_map f p (q ∷ qs) s = ap f s

module _ (links : List Link) (latest : ℕ) (r : IsRing links latest) where
  abbrev pub ps : List ℕ
  ps = order_of links latest

  pub count : length ps ≡ length links
  count = length-walk (older_at links) (length links) latest

  start : StartsAt latest ps
  start = starts_at (older_at links) (length links) latest

  below : Below (length links) ps
  below = λ q h. let b = is_below ps r.order q h in omega (arith, b, count)

  there : (i : ℕ) → i < length links → times i ps ≡ 1
  there = λ i h. is_there ps r.order i (omega (arith, h, count))

  pub oldest : 0 < length ps → Some (newer_at links latest) ≡ slice_get ps (length ps - 1)
  oldest h = last_of_cycle links latest ps h start r.cycle

  pub newer : (k q : ℕ) → slice_get ps (suc k) ≡ Some q → slice_get ps k ≡ Some (newer_at links q)
  newer k q h = newer_of_cycle links ps k q r.cycle h

  pub latest_inside : 0 < length links → latest < length links
  latest_inside h = by ps start (omega (arith, h, count)) below
    where
      by : (qs : List ℕ) → StartsAt latest qs → 0 < length qs → Below (length links) qs → latest < length links
      by [] s l b = absurd (omega (arith, l))
      by (q ∷ qs) s l b = b latest (let n = times-same latest q qs s in omega (arith, n))

  pub older_in : (i : ℕ) → i < length links → older_at links i < length links
  older_in i h = older_inside links ps i r.cycle below (there i h)

  pub newer_in : (i : ℕ) → i < length links → newer_at links i < length links
  newer_in i h = newer_inside links ps i r.cycle below (there i h)

  gone : (i : ℕ) → i < length links → times i (without i ps) ≡ 0
  gone i h = let t = there i h in let s = times-without i i ps (omega (arith, t)) in let o = if_same {A = ℕ} i i 1 0 refl in omega (arith, s, t, o)

  others_below : (i : ℕ) → i < length links → Below (length links) (without i ps)
  others_below i h = λ q l. below q (let t = there i h in let s = times-without i q ps (omega (arith, t)) in omega (arith, s, l))

  pub front_same : (i : ℕ) → i ≡ latest → 0 < length links → ps ≡ i ∷ without i ps
  front_same i e h = first_without latest ps (omega (arith, h, count)) start ∙ ap (λ z. z ∷ without z ps) (sym e)

  -- once the neighbours of i are linked
  module _ (i : ℕ) (inside : i < length links) where
    parted_is : Cycle (parted links i) (without i ps)
    parted_is = parted_cycle links ps i r.cycle below (there i inside)

    parted_below : Below (length (parted links i)) (without i ps)
    parted_below = λ q l. let b = others_below i inside q l in let n = length-parted links i in omega (arith, b, n)

    fewer : suc (length (without i ps)) ≡ length links
    fewer = let t = there i inside in let n = length-without i ps (omega (arith, t)) in omega (arith, n, count)

    latest_stays : (i ≡ latest → ⊥) → StartsAt latest (without i ps)
    latest_stays e = subst (λ z. StartsAt z (without i ps)) (if_apart latest i (older_at links i) latest (λ f. e (sym f))) (others_start links latest i ps start r.cycle)

    latest_there : (i ≡ latest → ⊥) → times latest (without i ps) ≡ 1
    latest_there e =
        let l = there latest (latest_inside (omega (arith, inside))) in
        let t = there i inside in
        let s = times-without i latest ps (omega (arith, t)) in
        let o = if_apart {A = ℕ} i latest 1 0 e in
        omega (arith, l, s, o)

    pub last_inside : (i ≡ latest → ⊥) → newer_at (parted links i) latest < length (parted links i)
    last_inside e = newer_inside (parted links i) (without i ps) latest parted_is parted_below (latest_there e)

    pub parted_older_in : (q : ℕ) → q < length links → older_at (parted links i) q < length links
    parted_older_in q h =
        let is = older-parted links i q (newer_in i inside) (older_in i inside) in
        let a = older_in i inside in
        let b = older_in q h in
        elim (cases_eq q (newer_at links i)) [
          | inl e ↦ let k = if_same q (newer_at links i) (older_at links i) (older_at links q) e in omega (arith, is, k, a)
          | inr e ↦ let k = if_apart q (newer_at links i) (older_at links i) (older_at links q) e in omega (arith, is, k, b)
        ]

    pub parted_newer_in : (q : ℕ) → q < length links → newer_at (parted links i) q < length links
    parted_newer_in q h =
        let is = newer-parted links i q (newer_in i inside) (older_in i inside) in
        let a = newer_in i inside in
        let b = newer_in q h in
        elim (cases_eq q (older_at links i)) [
          | inl e ↦ let k = if_same q (older_at links i) (newer_at links i) (newer_at links q) e in omega (arith, is, k, a)
          | inr e ↦ let k = if_apart q (older_at links i) (newer_at links i) (newer_at links q) e in omega (arith, is, k, b)
        ]

    front_from : (qs : List ℕ) → (i ≡ latest → ⊥) → StartsAt latest qs → Cycle (parted links i) qs → Below (length (parted links i)) qs → times latest qs ≡ 1 → times i qs ≡ 0
        → Cycle (joined (parted links i) i latest) (i ∷ qs)
    front_from [] e s cycle b one none = absurd (omega (arith, one))
    front_from (q ∷ qs) e s cycle b one none =
        let n = length-parted links i in
        subst (λ z. Cycle (joined (parted links i) i z) (i ∷ q ∷ qs)) s
        (joined_cycle (parted links i) q qs i cycle b (subst (λ z. times z (q ∷ qs) ≡ 1) (sym s) one) none (omega (arith, n, inside)))

    pub front : (i ≡ latest → ⊥) → Keeps (joined (parted links i) i latest) i (i ∷ without i ps)
    front e =
        let n = length-parted links i in
        let k = length-joined (parted links i) i latest in
        let f = fewer in
        keeps (joined (parted links i) i latest) i (i ∷ without i ps) (let s = r.small in omega (arith, n, k, s))
        (order_front ps i r.order (omega (arith, inside, count))) (let l : length (i ∷ without i ps) ≡ suc (length (without i ps)) = refl in omega (arith, n, k, f, l)) refl
        (front_from (without i ps) e (latest_stays e) parted_is parted_below (latest_there e) (gone i inside))

    -- the last position goes by the number i
    pub removed : (d : Link) (n : ℕ) → n ≡ length links
        → Keeps (swap_remove (told_or_same (parted links i) (n - 1) i) i d) (renamed (n - 1) i (renamed i (older_at links i) latest)) (map (renamed (length ps - 1) i) (without i ps))
    removed d n is =
        let ls = parted links i in
        let len = length-parted links i in
        let m = length ls - 1 in
        let same : length ps - 1 ≡ m = omega (arith, len, count) in
        let also : n - 1 ≡ m = omega (arith, len, is) in
        let f = fewer in
        let there_m : (m ≡ i → ⊥) → 0 < times m (without i ps) = λ e.
        let l = there m (omega (arith, len, inside)) in
        let t = there i inside in
        let s = times-without i m ps (omega (arith, t)) in
        let o = if_apart {A = ℕ} i m 1 0 (λ g. e (sym g)) in
        omega (arith, l, s, o) in
        let told_len = length-told_or_same ls m i in
        let shorter : length (swap_remove (told_or_same ls m i) i d) ≡ m =
        length-take-le (length (told_or_same ls m i) - 1) _ (let k = length-set (told_or_same ls m i) i (get_or (told_or_same ls m i) (length (told_or_same ls m i) - 1) d) in omega (arith, k)) ∙ (let z : length (told_or_same ls m i) - 1 ≡ m = ap (λ k. k - 1) told_len in z) in
        let cycle = removed_cycle ls (without i ps) i d parted_is parted_below (omega (arith, len, inside)) (gone i inside) there_m in
        let done : Keeps (swap_remove (told_or_same ls m i) i d) (renamed m i (renamed i (older_at links i) latest)) (map (renamed m i) (without i ps)) =
        keeps _ _ _ (let s = r.small in omega (arith, shorter, len, s)) (subst (λ k. IsOrder (map (renamed k i) (without i ps))) same (order_removed ps i r.order (omega (arith, inside, count))))
        (let k = length-map (without i ps) (renamed m i) in omega (arith, k, shorter, f, len)) (starts_map (renamed m i) _ (without i ps) (others_start links latest i ps start r.cycle)) cycle in
        subst (λ k. Keeps (swap_remove (told_or_same ls (n - 1) i) i d) (renamed (n - 1) i (renamed i (older_at links i) latest)) (map (renamed k i) (without i ps))) (sym same)
        (subst (λ k. Keeps (swap_remove (told_or_same ls k i) i d) (renamed k i (renamed i (older_at links i) latest)) (map (renamed m i) (without i ps))) (sym also) done)

  -- ---- one position more
  module _ (l : Link) where
    abbrev more : List Link
    more = links ++ l ∷ []

    more_cycle : Cycle more ps
    more_cycle =
        let at = λ (q : ℕ) (h : 0 < times q ps). get_or_append_left links (l ∷ []) no_link q (below q h) in
        subst (Cycle more) (map-id ps)
        (cycle_carries (older_at links) (newer_at links) (older_at more) (newer_at more) (λ x. x) (λ q. 0 < times q ps)
        (λ q h. (ap (λ (k : Link). k.older) (at q h), ap (λ (k : Link). k.newer) (at q h))) ps (Each-from _ ps (λ q h. h)) r.cycle)

    more_below : Below (length more) ps
    more_below = λ q h. let b = below q h in let n = length_push links l in omega (arith, b, n)

    last_link : get_or more (length links) no_link ≡ l
    last_link = get_or_push links l no_link (length links) refl

    none : times (length links) ps ≡ 0
    none = let t = r.order (length links) in let f : times (length links) ps < 1 = elim (cases_eq (times (length links) ps) 0) [
      | inl e ↦ omega (arith, e)
      | inr e ↦ (let b = below (length links) (omega (arith, e)) in absurd (omega (arith, b)))
    ] in omega (arith, f)

    -- the first to be linked in before, which at an empty ring is the new one
    abbrev first : ℕ
    first = if length links == 0 then length links else latest

    pub first_inside : first < length more
    first_inside = let n = length_push links l in elim (cases_eq (length links) 0) [
      | inl e ↦ let f = if_same (length links) 0 (length links) latest e in omega (arith, f, n)
      | inr e ↦ let f = if_apart (length links) 0 (length links) latest e in let b = latest_inside (omega (arith, e)) in omega (arith, f, n, b)
    ]

    pub last_in : l.newer ≡ length links → newer_at more first < length more
    last_in new = let n = length_push links l in elim (cases_eq (length links) 0) [
      | inl e ↦ let f : first ≡ length links = if_same (length links) 0 (length links) latest e in
          let at : newer_at more first ≡ length links = ap (newer_at more) f ∙ ap (λ (k : Link). k.newer) last_link ∙ new in
          omega (arith, at, n)
      | inr e ↦ let f : first ≡ latest = if_apart (length links) 0 (length links) latest e in
          let b = latest_inside (omega (arith, e)) in
          let at : newer_at more first ≡ newer_at links latest = ap (newer_at more) f ∙ ap (λ (k : Link). k.newer) (get_or_append_left links (l ∷ []) no_link latest b) in
          let w = newer_in latest b in
          omega (arith, at, n, w)
    ]

    pushed_from : (qs : List ℕ) → qs ≡ ps → StartsAt latest qs → l.newer ≡ length links → Cycle (joined more (length links) first) (length links ∷ qs)
    pushed_from [] is s new =
        let n = length_push links l in
        let e : length links ≡ 0 = (let k : length ps ≡ 0 = ap length (sym is) in omega (arith, k, count)) in
        let f : first ≡ length links = if_same (length links) 0 (length links) latest e in
        let at : newer_at more (length links) ≡ length links = ap (λ (k : Link). k.newer) last_link ∙ new in
        subst (λ z. Cycle (joined more (length links) z) (length links ∷ [])) (sym f) (joined_alone more (length links) (omega (arith, n)) (omega (arith, n, at)))
    pushed_from (q ∷ qs) is s new =
        let n = length_push links l in
        let k : length ps ≡ suc (length qs) = ap length (sym is) in
        let f : first ≡ latest = if_apart (length links) 0 (length links) latest (omega (arith, k, count)) in
        let q_there : times q (q ∷ qs) ≡ 1 = (let b = latest_inside (omega (arith, k, count)) in subst (λ z. times z (q ∷ qs) ≡ 1) (sym s) (subst (λ zs. times latest zs ≡ 1) (sym is) (there latest b))) in
        subst (λ z. Cycle (joined more (length links) z) (length links ∷ q ∷ qs)) (s ∙ sym f)
        (joined_cycle more q qs (length links) (subst (Cycle more) (sym is) more_cycle) (subst (Below (length more)) (sym is) more_below) q_there (subst (λ zs. times (length links) zs ≡ 0) (sym is) none) (omega (arith, n)))

    pub pushed : length links < 2 ^ 32 - 1 → l.newer ≡ length links → Keeps (joined more (length links) first) (length links) (length ps ∷ ps)
    pushed small new =
        let n = length_push links l in
        let k = length-joined more (length links) first in
        subst (λ z. Keeps (joined more (length links) first) (length links) (z ∷ ps)) (sym count)
        (keeps _ _ _ (omega (arith, n, k, small)) (subst (λ z. IsOrder (z ∷ ps)) count (order_pushed ps r.order)) (let s : length (length links ∷ ps) ≡ suc (length ps) = refl in omega (arith, n, k, s, count)) refl (pushed_from ps refl start new))

abbrev pub lone : ℕ → Link
lone n = record { older = n; newer = n }

-- the same, of what the calls left
module _ (links : List Link) (latest : ℕ) (r : IsRing links latest) where
  pub pushed_at : (n : ℕ) (grown out : List Link) (begin : ℕ) → n ≡ length links → grown ≡ links ++ lone n ∷ [] → begin ≡ (if length links == 0 then length links else latest)
      → out ≡ joined grown n begin → length links < 2 ^ 32 - 1 → Keeps out n (length (order_of links latest) ∷ order_of links latest)
  pushed_at n grown out begin is put at made small =
      subst (λ z. Keeps z n (length (order_of links latest) ∷ order_of links latest)) (sym (made ∙ ap (λ ls. joined ls n begin) put ∙ ap (joined (links ++ lone n ∷ []) n) at))
      (subst (λ z. Keeps (joined (links ++ lone n ∷ []) z (if length links == 0 then length links else latest)) z (length (order_of links latest) ∷ order_of links latest)) (sym is)
      (pushed links latest r (lone n) small is))

  pub last_in_at : (n : ℕ) (grown : List Link) (begin : ℕ) → n ≡ length links → grown ≡ links ++ lone n ∷ [] → begin ≡ (if length links == 0 then length links else latest)
      → newer_at grown begin < length grown
  last_in_at n grown begin is put at =
      subst (λ z. newer_at z begin < length z) (sym put) (subst (λ z. newer_at (links ++ lone n ∷ []) z < length (links ++ lone n ∷ [])) (sym at) (last_in links latest r (lone n) is))

  pub removed_at : (i n : ℕ) (cut told out : List Link) (without_i last : ℕ) (d : Link) → i < length links → n ≡ length links → cut ≡ parted links i → told ≡ told_or_same cut (n - 1) i → out ≡ swap_remove told i d
      → without_i ≡ renamed i (older_at links i) latest → last ≡ renamed (n - 1) i without_i → Keeps out last (map (renamed (length (order_of links latest) - 1) i) (without i (order_of links latest)))
  removed_at i n cut said out without_i last d inside is part tell take next after =
      subst (λ z. Keeps z last (map (renamed (length (order_of links latest) - 1) i) (without i (order_of links latest))))
      (sym (take ∙ ap (λ l. swap_remove l i d) (tell ∙ ap (λ l. told_or_same l (n - 1) i) part)))
      (subst (λ z. Keeps (swap_remove (told_or_same (parted links i) (n - 1) i) i d) z (map (renamed (length (order_of links latest) - 1) i) (without i (order_of links latest))))
      (sym (after ∙ ap (renamed (n - 1) i) next)) (removed links latest r i inside d n is))

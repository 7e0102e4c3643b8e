-- What has been pushed on the queues of the first receivers.
use Rattle.std.proofs.Common.{◌≡◌, ℕ, zero, suc, ◌+◌, ◌<◌, List, [], ◌∷◌, ◌++◌, take, drop, length, get_or, slice_index_or, slice_set, refl, ap, sym, ◌∙◌, add-zero, arith}
use Rattle.std.proofs.lemmas.List.{get_or-drop, drop-drop, drop-set-lt}
use Rattle.packet.specs.Outboxes.{EdgeView, no_edge, packets_on}
use Rattle.protocol.specs.Edges.{pushed, queue, with_queue}

module _ {X : Type 0} where
  -- one receiver more
  pushed_suc : (i n : ℕ) (xss : List (List X)) (inboxes : List (List (List X))) → n < length xss
      → with_queue (pushed i (take n xss) inboxes) n i (queue (pushed i (take n xss) inboxes) n i ++ slice_index_or xss n []) ≡ pushed i (take (suc n) xss) inboxes
  pushed_suc i n [] inboxes lt = absurd (omega (arith, lt))
  pushed_suc i zero (xs ∷ xss) [] lt = refl
  pushed_suc i zero (xs ∷ xss) (inbox ∷ inboxes) lt = refl
  pushed_suc i (suc n) (xs ∷ xss) [] lt = refl
  pushed_suc i (suc n) (xs ∷ xss) (inbox ∷ inboxes) lt =
      ap (λ l. slice_set inbox i (slice_index_or inbox i [] ++ xs) ∷ l) (pushed_suc i n xss inboxes (omega (arith, lt)))

  -- so after an append to it
  pub pushed_more : (i n : ℕ) (xss : List (List X)) (inboxes now then : List (List (List X))) (more : List X) → n < length xss → now ≡ pushed i (take n xss) inboxes → more ≡ slice_index_or xss n []
      → then ≡ with_queue now n i (queue now n i ++ more) → then ≡ pushed i (take (n + 1) xss) inboxes
  pushed_more i n xss inboxes now then more lt before is put =
      let one : suc n ≡ n + 1 = omega arith in
      put
      ∙ ap (λ q. with_queue q n i (queue q n i ++ more)) before
      ∙ ap (λ m. with_queue (pushed i (take n xss) inboxes) n i (queue (pushed i (take n xss) inboxes) n i ++ m)) is
      ∙ pushed_suc i n xss inboxes lt
      ∙ ap (λ k. pushed i (take k xss) inboxes) one

  at_front : (n : ℕ) (xs : List X) (d : X) → get_or (drop n xs) 0 d ≡ get_or xs n d
  at_front n xs d = get_or-drop n xs 0 d ∙ ap (λ k. get_or xs k d) (add-zero n)

  -- lists that go on alike have one element next, and go on alike behind it
  pub next_same : (xs ys : List X) (n : ℕ) (d : X) → drop n xs ≡ drop n ys → get_or xs n d ≡ get_or ys n d
  next_same xs ys n d h = sym (at_front n xs d) ∙ ap (λ l. get_or l 0 d) h ∙ at_front n ys d

  pub rest_same : (xs ys : List X) (n : ℕ) (x : X) → drop n xs ≡ drop n ys → drop (n + 1) (slice_set xs n x) ≡ drop (n + 1) ys
  rest_same xs ys n x h = drop-set-lt (n + 1) xs n x (omega arith) ∙ sym (drop-drop 1 n xs) ∙ ap (drop 1) h ∙ drop-drop 1 n ys

  -- what is on an edge
  pub packets_at : (edges : List (EdgeView X)) (n : ℕ) → (slice_index_or edges n no_edge).packets ≡ slice_index_or (packets_on edges) n []
  packets_at [] n = refl
  packets_at (e ∷ edges) zero = refl
  packets_at (e ∷ edges) (suc n) = packets_at edges n

-- Packets that are put on clear edges.
use Rattle.std.proofs.Common.{◌≡◌, ℕ, zero, suc, ◌+◌, ◌<◌, ◌==◌, cond, List, [], ◌∷◌, ◌++◌, map, length, get_or, slice_set, length-append, refl, ap, sym, ◌∙◌, subst, zero-add, arith}
use Rattle.std.specs.List.{range_with_len}
use Rattle.std.proofs.lemmas.List.{length-map}
use Rattle.std.proofs.lemmas.List.FromFn.{map-range_with_len_more}
use Rattle.std.proofs.lemmas.Bool.{eq-eqb, ne_eqb}
use Rattle.row.specs.Bags.{Each}
use Rattle.packet.specs.Messages.{none_of}
use Rattle.packet.specs.Outboxes.{EdgeView, HaveRoom, no_edge, packets_on, with_packet}

pub none_left : {X : Type 0} (xs : List X) → length xs ≡ 0 → xs ≡ []
none_left [] h = refl
none_left (x ∷ xs) h = absurd (omega (arith, h))

module _ {P : Type 0} where
  -- the first edges have these packets, one each, and the others none, but room
  abbrev pub Filled : List P → List (EdgeView P) → Type 0
  Filled [] edges = Each (λ (e : EdgeView P). (e.packets ≡ []) × (0 < e.room)) edges
  Filled (x ∷ xs) [] = ⊥
  Filled (x ∷ xs) (e ∷ es) = (e.packets ≡ x ∷ []) × Filled xs es

  pub filled_none : (edges : List (EdgeView P)) → packets_on edges ≡ none_of edges → HaveRoom edges → Filled [] edges
  filled_none [] h r = tt
  filled_none (e ∷ es) h r =
      let first : e.packets ≡ [] = cc in
      let rest : packets_on es ≡ none_of es = cc in
      ((first, r.0), filled_none es rest r.1)

  -- the next edge has room
  pub filled_room : (xs : List P) (edges : List (EdgeView P)) → Filled xs edges → length xs < length edges → 0 < (get_or edges (length xs) no_edge).room
  filled_room [] [] h lt = absurd (omega (arith, lt))
  filled_room [] (e ∷ es) h lt = h.0.1
  filled_room (x ∷ xs) [] h lt = absurd h
  filled_room (x ∷ xs) (e ∷ es) h lt = filled_room xs es h.1 (omega (arith, lt))

  -- it takes one packet
  pub filled_more : (xs : List P) (x : P) (edges : List (EdgeView P)) → Filled xs edges → length xs < length edges → Filled (xs ++ x ∷ []) (slice_set edges (length xs) (with_packet x (get_or edges (length xs) no_edge)))
  filled_more [] x [] h lt = absurd (omega (arith, lt))
  filled_more [] x (e ∷ es) h lt = (ap (λ l. l ++ x ∷ []) h.0.0, h.1)
  filled_more (y ∷ ys) x [] h lt = absurd h
  filled_more (y ∷ ys) x (e ∷ es) h lt = (h.0, filled_more ys x es h.1 (omega (arith, lt)))

  -- each edge has one
  pub filled_all : (xs : List P) (edges : List (EdgeView P)) → Filled xs edges → length xs ≡ length edges → packets_on edges ≡ map (λ x. x ∷ []) xs
  filled_all [] [] h e = refl
  filled_all [] (d ∷ ds) h e = absurd (omega (arith, e))
  filled_all (x ∷ xs) [] h e = absurd h
  filled_all (x ∷ xs) (d ∷ ds) h e = rw (h.0, filled_all xs ds h.1 (omega (arith, e))) refl

  -- no edge from a on is edge b
  past_one : (xs : List P) (edges : List (EdgeView P)) (a b : ℕ) → b < a → packets_on edges ≡ none_of edges → packets_on edges ≡ map (λ r. cond (r == b) xs []) (range_with_len a (length edges))
  past_one xs [] a b lt h = refl
  past_one xs (e ∷ es) a b lt h =
      let first : e.packets ≡ [] = cc in
      let rest : packets_on es ≡ none_of es = cc in
      rw (first, ne_eqb a b (λ is. omega (arith, lt, is)), past_one xs es (a + 1) b (omega (arith, lt)) rest) refl

  all_from : (d : EdgeView P) (edges : List (EdgeView P)) (i a b : ℕ) → b ≡ a + i → i < length edges → packets_on edges ≡ none_of edges → packets_on (slice_set edges i d) ≡ map (λ r. cond (r == b) d.packets []) (range_with_len a (length edges))
  all_from d [] i a b at lt h = absurd (omega (arith, lt))
  all_from d (e ∷ es) zero a b at lt h =
      let rest : packets_on es ≡ none_of es = cc in
      rw (eq-eqb a b (omega (arith, at)), past_one d.packets es (a + 1) b (omega (arith, at)) rest) refl
  all_from d (e ∷ es) (suc i) a b at lt h =
      let first : e.packets ≡ [] = cc in
      let rest : packets_on es ≡ none_of es = cc in
      rw (first, ne_eqb a b (λ is. omega (arith, at, is)), all_from d es i (a + 1) b (omega (arith, at)) (omega (arith, lt)) rest) refl

  -- an edge that is clear has no packet
  clear_at : (edges : List (EdgeView P)) (i : ℕ) → i < length edges → packets_on edges ≡ none_of edges → (get_or edges i no_edge).packets ≡ []
  clear_at [] i lt h = absurd (omega (arith, lt))
  clear_at (e ∷ es) zero lt h = cc
  clear_at (e ∷ es) (suc i) lt h = let rest : packets_on es ≡ none_of es = cc in clear_at es i (omega (arith, lt)) rest

  -- one edge alone has these packets
  pub all_sent : (d : EdgeView P) (edges : List (EdgeView P)) (i : ℕ) → i < length edges → packets_on edges ≡ none_of edges → packets_on (slice_set edges i d) ≡ map (λ r. cond (r == i) d.packets []) (range_with_len 0 (length edges))
  all_sent d edges i lt h = all_from d edges i 0 i (omega arith) lt h

  -- one edge alone has a packet
  pub one_sent : (x : P) (edges : List (EdgeView P)) (i : ℕ) → i < length edges → packets_on edges ≡ none_of edges → packets_on (slice_set edges i (with_packet x (get_or edges i no_edge))) ≡ map (λ r. cond (r == i) (x ∷ []) []) (range_with_len 0 (length edges))
  one_sent x edges i lt h = all_sent (with_packet x (get_or edges i no_edge)) edges i lt h ∙ ap (λ xs. map (λ r. cond (r == i) (xs ++ x ∷ []) []) (range_with_len 0 (length edges))) (clear_at edges i lt h)

  -- edges with the same packets are as many, and are clear together
  pub same_count : (es ds : List (EdgeView P)) → packets_on es ≡ packets_on ds → length es ≡ length ds
  same_count es ds h = sym (length-map es (λ (e : EdgeView P). e.packets)) ∙ ap length h ∙ length-map ds (λ (e : EdgeView P). e.packets)

  none_same : (es ds : List (EdgeView P)) → length es ≡ length ds → none_of {X = P} es ≡ none_of ds
  none_same [] [] e = refl
  none_same [] (d ∷ ds) e = absurd (omega (arith, e))
  none_same (x ∷ es) [] e = absurd (omega (arith, e))
  none_same (x ∷ es) (d ∷ ds) e = ap (λ l. [] ∷ l) (none_same es ds (omega (arith, e)))

  pub still_clear : (es ds : List (EdgeView P)) → packets_on es ≡ packets_on ds → packets_on ds ≡ none_of ds → packets_on es ≡ none_of es
  still_clear es ds h clear = h ∙ clear ∙ sym (none_same es ds (same_count es ds h))

  -- ---- along the packets: those done, the next one, the rest
  next_lt : (done : List P) (x : P) (rest all : List P) (edges : List (EdgeView P)) → done ++ x ∷ rest ≡ all → length all ≡ length edges → length done < length edges
  next_lt done x rest all edges whole n = let e : length (done ++ x ∷ rest) ≡ length all = ap length whole in omega (arith, length-append done (x ∷ rest), e, n)

  pub next_room : (done : List P) (x : P) (rest all : List P) (edges : List (EdgeView P)) (i : ℕ) → i ≡ length done → Filled done edges → done ++ x ∷ rest ≡ all → length all ≡ length edges → 0 < (get_or edges i no_edge).room
  next_room done x rest all edges i at filled whole n = subst (λ k. 0 < (get_or edges k no_edge).room) (sym at) (filled_room done edges filled (next_lt done x rest all edges whole n))

  pub next_filled : (done : List P) (x : P) (rest all : List P) (edges : List (EdgeView P)) (i : ℕ) → i ≡ length done → Filled done edges → done ++ x ∷ rest ≡ all → length all ≡ length edges → Filled (done ++ x ∷ []) (slice_set edges i (with_packet x (get_or edges i no_edge)))
  next_filled done x rest all edges i at filled whole n =
      subst (λ k. Filled (done ++ x ∷ []) (slice_set edges k (with_packet x (get_or edges k no_edge)))) (sym at) (filled_more done x edges filled (next_lt done x rest all edges whole n))

  pub next_count : (done : List P) (x : P) (i : ℕ) → i ≡ length done → i + 1 ≡ length (done ++ x ∷ [])
  next_count done x i at = omega (arith, length-append done (x ∷ []), at)

  -- ---- one packet for each stage shard
  pub each_one : (f : ℕ → P) (n : ℕ) (xs : List P) → xs ≡ map f (range_with_len 0 n) → map (λ x. x ∷ []) xs ≡ map (λ s. f s ∷ []) (range_with_len 0 n)
  each_one f n xs is = ap (map (λ x. x ∷ [])) is ∙ along (range_with_len 0 n)
    where
      along : (ns : List ℕ) → map {B = List P} (λ x. x ∷ []) (map f ns) ≡ map (λ s. f s ∷ []) ns
      along [] = refl
      along (k ∷ ks) = ap (λ l. (f k ∷ []) ∷ l) (along ks)

  pub made_more : (f : ℕ → P) (n : ℕ) (was now : List P) (x : P) → was ≡ map f (range_with_len 0 n) → x ≡ f n → now ≡ was ++ x ∷ [] → now ≡ map f (range_with_len 0 (n + 1))
  made_more f n was now x before is put = put ∙ ap (λ l. l ++ x ∷ []) before ∙ ap (λ y. map f (range_with_len 0 n) ++ y ∷ []) is ∙ sym (map-range_with_len_more f 0 n n (zero-add n))

-- What is on one edge changes, or one comes.
use Rattle.std.proofs.Common.{◌≡◌, ◌==◌, true, ℕ, zero, suc, ◌+◌, ◌<◌, ◌≤◌, List, [], ◌∷◌, ◌++◌, length, take, get_or, slice_index_or, slice_set, refl, ap, ◌∙◌, subst, arith, rules}
use Rattle.std.proofs.lemmas.List.{take_all}
use Rattle.row.specs.Bags.{Each}
use Rattle.packet.specs.Messages.{none_of}
use Rattle.packet.specs.Outboxes.{EdgeView, HaveRoom, no_edge, packets_on, with_one, with_packet, with_packet_on}

module _ {P : Type 0} where
  -- these packets on one edge
  pub packets_set : (edges : List (EdgeView P)) (i : ℕ) (e : EdgeView P) → packets_on (slice_set edges i e) ≡ slice_set (packets_on edges) i e.packets
  packets_set [] i e = refl
  packets_set (x ∷ xs) zero e = refl
  packets_set (x ∷ xs) (suc i) e = ap (λ ps. x.packets ∷ ps) (packets_set xs i e)

  -- an edge with the same packets
  pub packets_same : (edges : List (EdgeView P)) (i : ℕ) (d e : EdgeView P) → i < length edges → e.packets ≡ (get_or edges i d).packets → packets_on (slice_set edges i e) ≡ packets_on edges
  packets_same [] i d e lt is = refl
  packets_same (x ∷ xs) zero d e lt is = ap (λ p. p ∷ packets_on xs) is
  packets_same (x ∷ xs) (suc i) d e lt is = ap (λ ps. x.packets ∷ ps) (packets_same xs i d e (omega (arith, lt)) is)

  none_here : (ps : List P) → (length ps == 0) ≡ true → ps ≡ []
  none_here [] is = refl
  none_here (p ∷ ps) is = absurd (search rules)

  -- an edge with nothing on it loses nothing
  pub clear_stays : (edges : List (EdgeView P)) (i : ℕ) → (length (slice_index_or edges i no_edge).packets == 0) ≡ true → packets_on edges ≡ slice_set (packets_on edges) i []
  clear_stays [] i is = refl
  clear_stays (x ∷ xs) zero is = ap (λ p. p ∷ packets_on xs) (none_here x.packets is)
  clear_stays (x ∷ xs) (suc i) is = ap (λ ps. x.packets ∷ ps) (clear_stays xs i is)

  -- what holds of the first edges, and of the next one now
  module _ (Q : EdgeView P → Type 0) where
    each_suc : (edges : List (EdgeView P)) (i : ℕ) (e : EdgeView P) → i < length edges → Each Q (take i edges) → Q e → Each Q (take (suc i) (slice_set edges i e))
    each_suc [] i e lt before here = absurd (omega (arith, lt))
    each_suc (x ∷ xs) zero e lt before here = (here, tt)
    each_suc (x ∷ xs) (suc i) e lt before here = (before.0, each_suc xs i e (omega (arith, lt)) before.1 here)

    pub each_more : (edges : List (EdgeView P)) (i : ℕ) (e : EdgeView P) → i < length edges → Each Q (take i edges) → Q e → Each Q (take (i + 1) (slice_set edges i e))
    each_more edges i e lt before here = let n : suc i ≡ i + 1 = omega arith in subst (λ k. Each Q (take k (slice_set edges i e))) n (each_suc edges i e lt before here)

  -- an edge more has room
  pub room_more : (edges : List (EdgeView P)) (i : ℕ) (e : EdgeView P) → i < length edges → HaveRoom (take i edges) → 0 < e.room → HaveRoom (take (i + 1) (slice_set edges i e))
  room_more = each_more (λ e. 0 < e.room)

  -- nothing is on the first edges
  abbrev pub AreClear : List (EdgeView P) → Type 0
  AreClear edges = Each (λ (e : EdgeView P). e.packets ≡ []) edges

  clear_all : (edges : List (EdgeView P)) → AreClear edges → packets_on edges ≡ none_of edges
  clear_all [] h = refl
  clear_all (x ∷ xs) h = rw (h.0, clear_all xs h.1) refl

  pub all_clear : (edges : List (EdgeView P)) (n : ℕ) → length edges ≤ n → AreClear (take n edges) → packets_on edges ≡ none_of edges
  all_clear edges n all h = clear_all edges (subst AreClear (take_all n edges all) h)

  -- one packet more
  packets_at : (edges : List (EdgeView P)) (i : ℕ) → (slice_index_or edges i no_edge).packets ≡ slice_index_or (packets_on edges) i []
  packets_at [] i = refl
  packets_at (x ∷ xs) zero = refl
  packets_at (x ∷ xs) (suc i) = packets_at xs i

  pub one_more : (edges was : List (EdgeView P)) (i : ℕ) (x : P) → packets_on edges ≡ packets_on was → packets_on (with_packet_on i x edges) ≡ with_one i x (packets_on was)
  one_more edges was i x same =
      packets_set edges i (with_packet x (slice_index_or edges i no_edge))
      ∙ (ap (λ ps. slice_set (packets_on edges) i (ps ++ x ∷ [])) (packets_at edges i) ∙ ap (with_one i x) same)

-- One step of a sender, and one of a receiver, keep all edges.
use Rattle.std.proofs.Common.{◌≡◌, ℕ, zero, suc, Bool, true, false, List, [], ◌∷◌, ◌++◌, Some, length, slice_get, slice_set, slice_index_or, refl, sym, subst, arith}
use Rattle.row.specs.Bags.{Each}
use Rattle.packet.specs.Truth.{Pointwise}
use Rattle.protocol.specs.Worlds.{Node}
use Rattle.protocol.specs.Edges.{pushed, with_queue}
use Rattle.protocol.specs.WorldSteps.{runs_on, off}
use Rattle.protocol.proofs.Wired.{Three, Led, Edges}
use Rattle.protocol.proofs.Lists.{pair_both, pair_left, set_same}

module _ {F P : Type 0} (Run : F → List P → F → Type 0) (Before : F → F → Type 0) where
  -- what the runs of a kind of edge are like
  pub record AreRunsOf : Type 0 where
    pub append : (a b c : F) (xs ys : List P) → Run a xs b → Run b ys c → Run a (xs ++ ys) c
    pub before : (a b : F) (xs : List P) → Run a xs b → Before a b
    pub chains : (a b c : F) → Before a b → Before b c → Before a c

  module _ (laws : AreRunsOf) where
    led_push : (runs : Bool) (f x y : F) (qs ps : List P) → Led Run Before runs f qs x → Run x ps y → Led Run Before runs f (qs ++ ps) y
    led_push true f x y qs ps l r = laws.append f x y qs ps l r
    led_push false f x y qs ps l r = laws.chains f x y l (laws.before x y ps r)

    three_push : (runs : Bool) (fs : List F) (qs : List (List P)) (xs : List F) (i : ℕ) (x y : F) (ps : List P) → slice_get xs i ≡ Some x → Run x ps y
        → Three (Led Run Before runs) fs qs xs → Three (Led Run Before runs) fs (slice_set qs i (slice_index_or qs i [] ++ ps)) (slice_set xs i y)
    three_push runs [] [] [] i x y ps at r h = tt
    three_push runs [] [] (z ∷ xs) i x y ps at r h = absurd h
    three_push runs [] (q ∷ qs) xs i x y ps at r h = absurd h
    three_push runs (f ∷ fs) [] xs i x y ps at r h = absurd h
    three_push runs (f ∷ fs) (q ∷ qs) [] i x y ps at r h = absurd h
    three_push runs (f ∷ fs) (q ∷ qs) (z ∷ xs) zero x y ps at r h =
        let e : z ≡ x = cc in (led_push runs f x y q ps (subst (Led Run Before runs f q) e h.0) r, h.1)
    three_push runs (f ∷ fs) (q ∷ qs) (z ∷ xs) (suc i) x y ps at r h = (h.0, three_push runs fs qs xs i x y ps at r h.1)

    -- sender i goes from x to y, and puts out a run to each receiver
    pub edges_push : {X : Type 0} (held : X → List F) (nodes : List (Node X)) (inboxes : List (List (List P))) (senders : List F) (i : ℕ) (x y : F) (sent : List (List P))
        → slice_get senders i ≡ Some x → Each (λ ps. Run x ps y) sent → length sent ≡ length inboxes
        → Edges Run Before held nodes inboxes senders → Edges Run Before held nodes (pushed i sent inboxes) (slice_set senders i y)
    edges_push held [] [] senders i x y [] at r e h = tt
    edges_push held [] [] senders i x y (ps ∷ sent) at r e h = cc
    edges_push held [] (inbox ∷ inboxes) senders i x y sent at r e h = absurd h
    edges_push held (n ∷ nodes) [] senders i x y sent at r e h = absurd h
    edges_push held (n ∷ nodes) (inbox ∷ inboxes) senders i x y [] at r e h = cc
    edges_push held (n ∷ nodes) (inbox ∷ inboxes) senders i x y (ps ∷ sent) at r e h =
        (three_push n.runs (held n.is) inbox senders i x y ps at r.0 h.0, edges_push held nodes inboxes senders i x y sent at r.1 (omega (arith, e)) h.1)

    -- each front is before its sender's
    three_before : (runs : Bool) (fs : List F) (qs : List (List P)) (xs : List F) → Three (Led Run Before runs) fs qs xs → Pointwise Before fs xs
    three_before runs [] [] [] h = tt
    three_before runs [] [] (z ∷ xs) h = absurd h
    three_before runs [] (q ∷ qs) xs h = absurd h
    three_before runs (f ∷ fs) [] xs h = absurd h
    three_before runs (f ∷ fs) (q ∷ qs) [] h = absurd h
    three_before true (f ∷ fs) (q ∷ qs) (z ∷ xs) h = (laws.before f z q h.0, three_before true fs qs xs h.1)
    three_before false (f ∷ fs) (q ∷ qs) (z ∷ xs) h = (h.0, three_before false fs qs xs h.1)

    pub edges_before : {X : Type 0} (held : X → List F) (nodes : List (Node X)) (inboxes : List (List (List P))) (senders : List F)
        → Edges Run Before held nodes inboxes senders → Each (λ (n : Node X). Pointwise Before (held n.is) senders) nodes
    edges_before held [] [] senders h = tt
    edges_before held [] (inbox ∷ inboxes) senders h = absurd h
    edges_before held (n ∷ nodes) [] senders h = absurd h
    edges_before held (n ∷ nodes) (inbox ∷ inboxes) senders h = (three_before n.runs (held n.is) inbox senders h.0, edges_before held nodes inboxes senders h.1)

    three_off : (runs : Bool) (fs : List F) (qs : List (List P)) (xs : List F) → Three (Led Run Before runs) fs qs xs → Three (Led Run Before false) fs qs xs
    three_off false fs qs xs h = h
    three_off true [] [] [] h = tt
    three_off true (f ∷ fs) (q ∷ qs) (z ∷ xs) h = (laws.before f z q h.0, three_off true fs qs xs h.1)
    three_off true (f ∷ fs) (q ∷ qs) [] h = absurd h
    three_off true (f ∷ fs) [] xs h = absurd h
    three_off true [] (q ∷ qs) xs h = absurd h
    three_off true [] [] (z ∷ xs) h = absurd h

    -- a receiver stops
    pub edges_off : {X : Type 0} (held : X → List F) (nodes : List (Node X)) (inboxes : List (List (List P))) (senders : List F) (i : ℕ) (n : Node X) → slice_get nodes i ≡ Some n
        → Edges Run Before held nodes inboxes senders → Edges Run Before held (slice_set nodes i (off n)) inboxes senders
    edges_off held nodes inboxes senders i n at h =
        pair_left (λ m inbox. Three (Led Run Before m.runs) (held m.is) inbox senders) nodes inboxes i n (off n) at (λ inbox. three_off n.runs (held n.is) inbox senders) h

  -- what a receiver that has stopped is sent does not matter
  three_lost : (fs : List F) (qs : List (List P)) (xs : List F) (i : ℕ) (ps : List P) → Three (Led Run Before false) fs qs xs → Three (Led Run Before false) fs (slice_set qs i ps) xs
  three_lost [] [] [] i ps h = tt
  three_lost [] [] (z ∷ xs) i ps h = absurd h
  three_lost [] (q ∷ qs) xs i ps h = absurd h
  three_lost (f ∷ fs) [] xs i ps h = absurd h
  three_lost (f ∷ fs) (q ∷ qs) [] i ps h = absurd h
  three_lost (f ∷ fs) (q ∷ qs) (z ∷ xs) zero ps h = h
  three_lost (f ∷ fs) (q ∷ qs) (z ∷ xs) (suc i) ps h = (h.0, three_lost fs qs xs i ps h.1)

  -- the first packet of sender i is taken off, and the receiver goes on to where it ends
  pub three_taken : (to : P → F) → ((f z : F) (k : P) (ks : List P) → Run f (k ∷ ks) z → Run (to k) ks z) → (fs : List F) (qs : List (List P)) (xs : List F) (i : ℕ) (k : P) (ks : List P) → slice_index_or qs i [] ≡ k ∷ ks
      → Three (Led Run Before true) fs qs xs → Three (Led Run Before true) (slice_set fs i (to k)) (slice_set qs i ks) xs
  three_taken to next [] [] xs i k ks e h = cc
  three_taken to next [] (q ∷ qs) xs i k ks e h = absurd h
  three_taken to next (f ∷ fs) [] xs i k ks e h = absurd h
  three_taken to next (f ∷ fs) (q ∷ qs) [] i k ks e h = absurd h
  three_taken to next (f ∷ fs) (q ∷ qs) (z ∷ xs) zero k ks e h = (next f z k ks (subst (λ p. Run f p z) e h.0), h.1)
  three_taken to next (f ∷ fs) (q ∷ qs) (z ∷ xs) (suc i) k ks e h = (h.0, three_taken to next fs qs xs i k ks e h.1)

  -- that packet is the next for it
  pub three_next : (fs : List F) (qs : List (List P)) (xs : List F) (i : ℕ) (k : P) (ks : List P) → slice_index_or qs i [] ≡ k ∷ ks
      → Three (Led Run Before true) fs qs xs → (f z : F) × (slice_get fs i ≡ Some f) × Run f (k ∷ ks) z
  three_next [] [] xs i k ks e h = cc
  three_next [] (q ∷ qs) xs i k ks e h = absurd h
  three_next (f ∷ fs) [] xs i k ks e h = absurd h
  three_next (f ∷ fs) (q ∷ qs) [] i k ks e h = absurd h
  three_next (f ∷ fs) (q ∷ qs) (z ∷ xs) zero k ks e h = (f, z, refl, subst (λ p. Run f p z) e h.0)
  three_next (f ∷ fs) (q ∷ qs) (z ∷ xs) (suc i) k ks e h = three_next fs qs xs i k ks e h.1

  module _ {X : Type 0} (held : X → List F) (nodes : List (Node X)) (inboxes : List (List (List P))) (senders : List F) (r : ℕ) (n : Node X) (at : slice_get nodes r ≡ Some n) where
    pub edges_lost : (i : ℕ) (ps : List P) → n.runs ≡ false → Edges Run Before held nodes inboxes senders → Edges Run Before held nodes (with_queue inboxes r i ps) senders
    edges_lost i ps e h =
        subst (λ ns. Edges Run Before held ns (with_queue inboxes r i ps) senders) (set_same nodes r n at)
        (pair_both (λ m inbox. Three (Led Run Before m.runs) (held m.is) inbox senders) [] nodes inboxes r n n (slice_set (slice_index_or inboxes r []) i ps) at
        (λ t. subst (λ b. Three (Led Run Before b) (held n.is) (slice_set (slice_index_or inboxes r []) i ps) senders) (sym e)
        (three_lost (held n.is) (slice_index_or inboxes r []) senders i ps (subst (λ b. Three (Led Run Before b) (held n.is) (slice_index_or inboxes r []) senders) e t))) h)

    -- a receiver that runs takes a packet
    pub edges_taken : (to : P → F) → ((f z : F) (k : P) (ks : List P) → Run f (k ∷ ks) z → Run (to k) ks z) → (i : ℕ) (k : P) (ks : List P) (x : X) → n.runs ≡ true
        → slice_index_or (slice_index_or inboxes r []) i [] ≡ k ∷ ks → held x ≡ slice_set (held n.is) i (to k)
        → Edges Run Before held nodes inboxes senders → Edges Run Before held (runs_on r x nodes) (with_queue inboxes r i ks) senders
    edges_taken to next i k ks x e q is h =
        pair_both (λ m inbox. Three (Led Run Before m.runs) (held m.is) inbox senders) [] nodes inboxes r n (record { is = x; runs = true }) (slice_set (slice_index_or inboxes r []) i ks) at
        (λ t. subst (λ fs. Three (Led Run Before true) fs (slice_set (slice_index_or inboxes r []) i ks) senders) (sym is)
        (three_taken to next (held n.is) (slice_index_or inboxes r []) senders i k ks q (subst (λ b. Three (Led Run Before b) (held n.is) (slice_index_or inboxes r []) senders) e t))) h

    -- a receiver that runs does something else
    pub edges_same : (x : X) → n.runs ≡ true → held x ≡ held n.is → Edges Run Before held nodes inboxes senders → Edges Run Before held (runs_on r x nodes) inboxes senders
    edges_same x e is h =
        pair_left (λ m inbox. Three (Led Run Before m.runs) (held m.is) inbox senders) nodes inboxes r n (record { is = x; runs = true }) at
        (λ inbox t. subst (λ fs. Three (Led Run Before true) fs inbox senders) (sym is) (subst (λ b. Three (Led Run Before b) (held n.is) inbox senders) e t)) h

-- What is kept at a key stays true of the sources' parts.
use Rattle.std.proofs.Common.{◌≡◌, ℕ, zero, suc, Bool, true, false, cond, ◌&&◌, List, [], ◌∷◌, ◌++◌, Option, Some, None, refl, ap, sym, ◌∙◌, slice_get, slice_set, length, replicate, subst, append_assoc}
use Rattle.partial.specs.States.{State, Hole, Waiting, Filled, begun, given, is_missing, is_whole, somes, evicted, after_piece, after_change, piece_changed, PieceFits, ChangeFits}
use Rattle.partial.specs.Truth.{Matches, IsTrueOf, with_part}

module _ {E : Type 0} where
  Matches-none : (parts : List E) → Matches (replicate (length parts) None) parts
  Matches-none [] = tt
  Matches-none (p ∷ parts) = (tt, Matches-none parts)

  whole_is : (pieces : List (Option E)) (parts : List E) → Matches pieces parts → is_whole pieces ≡ true → somes pieces ≡ parts
  whole_is [] [] m w = refl
  whole_is [] (p ∷ parts) m w = absurd m
  whole_is (o ∷ pieces) [] m w = absurd m
  whole_is (None ∷ pieces) (p ∷ parts) m w = cc
  whole_is (Some q ∷ pieces) (p ∷ parts) m w = let e = m.0 in let t = whole_is pieces parts m.1 w in cc

  -- a source's place takes what its part is
  Matches-set : (pieces : List (Option E)) (parts : List E) (s : ℕ) (p : E) → Matches pieces parts → slice_get parts s ≡ Some p → Matches (slice_set pieces s (Some p)) parts
  Matches-set [] [] s p m i = tt
  Matches-set [] (q ∷ parts) s p m i = absurd m
  Matches-set (o ∷ pieces) [] s p m i = absurd m
  Matches-set (o ∷ pieces) (q ∷ parts) zero p m i = (cc, m.1)
  Matches-set (o ∷ pieces) (q ∷ parts) (suc s) p m i = (m.0, Matches-set pieces parts s p m.1 i)

  -- a source whose piece is not here may change
  Matches-dropped : (pieces : List (Option E)) (parts : List E) (s : ℕ) (p : E) → Matches pieces parts → Matches (slice_set pieces s None) (slice_set parts s p)
  Matches-dropped [] [] s p m = tt
  Matches-dropped [] (q ∷ parts) s p m = absurd m
  Matches-dropped (o ∷ pieces) [] s p m = absurd m
  Matches-dropped (o ∷ pieces) (q ∷ parts) zero p m = (tt, m.1)
  Matches-dropped (o ∷ pieces) (q ∷ parts) (suc s) p m = (m.0, Matches-dropped pieces parts s p m.1)

  module _ (total : List E → E) where
    pub begin_keeps : (parts : List E) (st : State E) → IsTrueOf total parts st → IsTrueOf total parts (begun (length parts) st)
    begin_keeps parts Hole t = Matches-none parts
    begin_keeps parts (Waiting pieces) t = t
    begin_keeps parts (Filled e) t = t

    pub piece_keeps : (parts : List E) (s : ℕ) (p : E) (st : State E) → slice_get parts s ≡ Some p → IsTrueOf total parts st → IsTrueOf total parts (after_piece total s p st)
    piece_keeps parts s p Hole i t = tt
    piece_keeps parts s p (Filled e) i t = t
    piece_keeps parts s p (Waiting pieces) i t = settle (is_missing (slice_get pieces s)) (is_whole (given s p pieces)) refl
      where
        give : (b : Bool) → Matches (cond b (slice_set pieces s (Some p)) pieces) parts
        give true = Matches-set pieces parts s p t i
        give false = t

        settle : (a b : Bool) → is_whole (given s p pieces) ≡ b → IsTrueOf total parts (cond (a && b) (Filled (total (somes (given s p pieces)))) (Waiting (given s p pieces)))
        settle true true e = ap total (whole_is (given s p pieces) parts (give (is_missing (slice_get pieces s))) e)
        settle true false e = give (is_missing (slice_get pieces s))
        settle false b e = give (is_missing (slice_get pieces s))

    pub evict_keeps : (parts : List E) (source : Option ℕ) (p : E) (st : State E) → IsTrueOf total parts st → IsTrueOf total (with_part source p parts) (evicted source st)
    evict_keeps parts source p Hole t = tt
    evict_keeps parts None p (Waiting pieces) t = t
    evict_keeps parts (Some s) p (Waiting pieces) t = Matches-dropped pieces parts s p t
    evict_keeps parts source p (Filled e) t = tt

  module _ {C : Type 0} (plus : E → C → E) (fits : E → C → Type 0) where
    Matches-changed : (pieces : List (Option E)) (parts : List E) (s : ℕ) (p : E) (c : C) → Matches pieces parts → slice_get parts s ≡ Some p
        → Matches (piece_changed plus c s pieces (slice_get pieces s)) (slice_set parts s (plus p c))
    Matches-changed [] [] s p c m i = tt
    Matches-changed [] (q ∷ parts) s p c m i = absurd m
    Matches-changed (o ∷ pieces) [] s p c m i = absurd m
    Matches-changed (None ∷ pieces) (q ∷ parts) zero p c m i = (tt, m.1)
    Matches-changed (Some r ∷ pieces) (q ∷ parts) zero p c m i = let e : r ≡ p = cc in (ap (λ x. plus x c) e, m.1)
    Matches-changed (o ∷ pieces) (q ∷ parts) (suc s) p c m i = step (slice_get pieces s) (Matches-changed pieces parts s p c m.1 i)
      where
        step : (place : Option (Option E)) → Matches (piece_changed plus c s pieces place) (slice_set parts s (plus p c)) → Matches (piece_changed plus c (suc s) (o ∷ pieces) place) (q ∷ slice_set parts s (plus p c))
        step None k = (m.0, k)
        step (Some place) k = (m.0, k)

    PieceFits-part : (pieces : List (Option E)) (parts : List E) (s : ℕ) (p : E) (c : C) → Matches pieces parts → slice_get parts s ≡ Some p → fits p c → PieceFits fits c (slice_get pieces s)
    PieceFits-part [] parts s p c m i f = tt
    PieceFits-part (o ∷ pieces) [] s p c m i f = absurd m
    PieceFits-part (None ∷ pieces) (q ∷ parts) zero p c m i f = tt
    PieceFits-part (Some r ∷ pieces) (q ∷ parts) zero p c m i f = let e : p ≡ r = cc in subst (λ x. fits x c) e f
    PieceFits-part (o ∷ pieces) (q ∷ parts) (suc s) p c m i f = PieceFits-part pieces parts s p c m.1 i f

    -- with the laws of a gather
    module _ (total : List E → E)
        (total_changes : (before after : List E) (p : E) (c : C) → fits p c → total (before ++ plus p c ∷ after) ≡ plus (total (before ++ p ∷ after)) c)
        (total_fits : (before after : List E) (p : E) (c : C) → fits p c → fits (total (before ++ p ∷ after)) c) where
      sum_fits : (before parts : List E) (s : ℕ) (p : E) (c : C) → slice_get parts s ≡ Some p → fits p c → fits (total (before ++ parts)) c
      sum_fits before [] s p c i f = cc
      sum_fits before (q ∷ parts) zero p c i f = let e : p ≡ q = cc in total_fits before parts q c (subst (λ x. fits x c) e f)
      sum_fits before (q ∷ parts) (suc s) p c i f = subst (λ l. fits (total l) c) (append_assoc before (q ∷ []) parts) (sum_fits (before ++ q ∷ []) parts s p c i f)

      sum_changes : (before parts : List E) (s : ℕ) (p : E) (c : C) → slice_get parts s ≡ Some p → fits p c → total (before ++ slice_set parts s (plus p c)) ≡ plus (total (before ++ parts)) c
      sum_changes before [] s p c i f = cc
      sum_changes before (q ∷ parts) zero p c i f =
          let e : p ≡ q = cc in ap (λ x. total (before ++ plus x c ∷ parts)) e ∙ total_changes before parts q c (subst (λ x. fits x c) e f)
      sum_changes before (q ∷ parts) (suc s) p c i f =
          ap total (sym (append_assoc before (q ∷ []) (slice_set parts s (plus p c)))) ∙ sum_changes (before ++ q ∷ []) parts s p c i f ∙ ap (λ l. plus (total l) c) (append_assoc before (q ∷ []) parts)

      -- a change that fits the source's part fits what is kept
      pub change_fits : (parts : List E) (s : ℕ) (p : E) (c : C) (st : State E) → slice_get parts s ≡ Some p → fits p c → IsTrueOf total parts st → ChangeFits fits s c st
      change_fits parts s p c Hole i f t = tt
      change_fits parts s p c (Waiting pieces) i f t = PieceFits-part pieces parts s p c t i f
      change_fits parts s p c (Filled e) i f t = subst (λ x. fits x c) (sym t) (sum_fits [] parts s p c i f)

      pub change_keeps : (parts : List E) (s : ℕ) (p : E) (c : C) (st : State E) → slice_get parts s ≡ Some p → fits p c → IsTrueOf total parts st → IsTrueOf total (slice_set parts s (plus p c)) (after_change plus s c st)
      change_keeps parts s p c Hole i f t = tt
      change_keeps parts s p c (Waiting pieces) i f t = Matches-changed pieces parts s p c t i
      change_keeps parts s p c (Filled e) i f t = ap (λ x. plus x c) t ∙ sym (sum_changes [] parts s p c i f)

-- a change that fits all entries fits what is kept
pub always_fits : {E C : Type 0} (fits : E → C → Type 0) (s : ℕ) (c : C) (st : State E) → ((e : E) → fits e c) → ChangeFits fits s c st
always_fits fits s c Hole h = tt
always_fits {E} {C} fits s c (Waiting pieces) h = by (slice_get pieces s)
  where
    by : (place : Option (Option E)) → PieceFits fits c place
    by None = tt
    by (Some None) = tt
    by (Some (Some p)) = h p
always_fits fits s c (Filled e) h = h e

-- What is kept at each key after a call that changes one.
use Rattle.std.proofs.Common.{◌≡◌, ℕ, zero, suc, Bool, true, false, cond, ◌++◌, List, [], ◌∷◌, Option, Some, None, slice_get, refl, ap, sym, ◌∙◌}
use Rattle.std.proofs.lemmas.List.{append-nil}
use Rattle.row.specs.Cells.{Datum, Cells, datum_of}
use Rattle.row.specs.Groups.{equal}
use Rattle.row.specs.declared.value.Value.{Value}
use Rattle.partial.specs.States.{State, Hole, Waiting, Filled, state_of, entry_of, evicted, says_evicted, is_here, OthersStay}
use Rattle.partial.specs.declared.partial.Evicted.{Evicted}
use Rattle.partial.specs.declared.partial.Evicted.TheVariants as said
use Rattle.packet.specs.Keys.{stand_of, stands_of, has_piece}
use Rattle.packet.proofs.KeySteps.{Store, state_same}
use Rattle.packet.proofs.KeptKeys.{stand_is, blank}
use Rattle.protocol.specs.ViewSteps.{again}
use Rattle.view_domain.specs.declared.shown.KeyChange.{KeyChange}
use Rattle.view_domain.specs.declared.shown.KeyChange.TheVariants.{Goes}
use Rattle.view_domain.specs.Shown.{key_in, turned, shown_after, rows_at, gone_by, asked_by, LeadsTo}

module _ (old new : Store) (key : Value) (others : OthersStay equal key old new) where
  -- what was shown leads there, where no entry has changed
  pub leads_same : (first : Value → Option (List Cells)) (cs : List KeyChange) → entry_of (state_of equal new key) ≡ entry_of (state_of equal old key) → LeadsTo first cs old → LeadsTo first cs new
  leads_same first cs stays h = record { each = λ k. step k (equal key k) refl ∙ h.each k }
    where
      step : (k : Value) (b : Bool) → equal key k ≡ b → entry_of (state_of equal new k) ≡ entry_of (state_of equal old k)
      step k true e = ap entry_of (sym (state_same new key k e)) ∙ (stays ∙ ap entry_of (state_same old key k e))
      step k false e = ap entry_of (others k e)

shown_push : (cs : List KeyChange) (c : KeyChange) (key : Value) (o : Option (List Cells)) → shown_after (cs ++ c ∷ []) key o ≡ cond (equal (key_in c) key) (turned c (shown_after cs key o)) (shown_after cs key o)
shown_push [] c key o = refl
shown_push (q ∷ qs) c key o = shown_push qs c key (cond (equal (key_in q) key) (turned q o) o)

module _ (old new : Store) (c : KeyChange) (others : OthersStay equal (key_in c) old new) where
  -- it leads there with the change of one key, and no other has changed
  pub leads_push : (first : Value → Option (List Cells)) (cs : List KeyChange) → entry_of (state_of equal new (key_in c)) ≡ turned c (entry_of (state_of equal old (key_in c)))
      → LeadsTo first cs old → LeadsTo first (cs ++ c ∷ []) new
  leads_push first cs turn h = record { each = λ k. sym (shown_push cs c k (first k) ∙ step k (equal (key_in c) k) refl) }
    where
      step : (k : Value) (b : Bool) → equal (key_in c) k ≡ b → cond b (turned c (shown_after cs k (first k))) (shown_after cs k (first k)) ≡ rows_at new k
      step k true e = ap (turned c) (sym (h.each k)) ∙ (ap (λ st. turned c (entry_of st)) (sym (state_same old (key_in c) k e)) ∙ (sym turn ∙ ap entry_of (state_same new (key_in c) k e)))
      step k false e = sym (h.each k) ∙ ap entry_of (sym (others k e))

-- ---- an eviction
emptied : (source : Option ℕ) (st : State (List Cells)) → entry_of (evicted source st) ≡ None
emptied None Hole = refl
emptied (Some s) Hole = refl
emptied None (Waiting pieces) = refl
emptied (Some s) (Waiting pieces) = refl
emptied None (Filled e) = refl
emptied (Some s) (Filled e) = refl

by_nothing : (source : Option ℕ) (st : State (List Cells)) → said.Nothing ≡ says_evicted source st → entry_of st ≡ None
by_nothing source Hole h = refl
by_nothing source (Waiting pieces) h = refl
by_nothing None (Filled e) h = cc
by_nothing (Some s) (Filled e) h = cc

by_piece : (source : Option ℕ) (st : State (List Cells)) → said.Piece ≡ says_evicted source st → entry_of st ≡ None
by_piece source Hole h = refl
by_piece source (Waiting pieces) h = refl
by_piece None (Filled e) h = cc
by_piece (Some s) (Filled e) h = cc

-- what it says that it did leads there
pub leads_evicted : (first : Value → Option (List Cells)) (cs : List KeyChange) (old new : Store) (key : Value) (source : Option ℕ) (what : Evicted) → what ≡ says_evicted source (state_of equal old key)
    → state_of equal new key ≡ evicted source (state_of equal old key) → OthersStay equal key old new → LeadsTo first cs old → LeadsTo first (cs ++ gone_by what key) new
leads_evicted first cs old new key source what says own others h = by what says
  where
    now : entry_of (state_of equal new key) ≡ None
    now = ap entry_of own ∙ emptied source (state_of equal old key)

    by : (w : Evicted) → w ≡ says_evicted source (state_of equal old key) → LeadsTo first (cs ++ gone_by w key) new
    by said.Nothing e = rw (append-nil cs) (leads_same old new key others first cs (now ∙ sym (by_nothing source (state_of equal old key) e)) h)
    by said.Piece e = rw (append-nil cs) (leads_same old new key others first cs (now ∙ sym (by_piece source (state_of equal old key) e)) h)
    by said.Entry e = leads_push old new (Goes key) others first cs now h

here_is : (pieces : List (Option (List Cells))) (s : ℕ) → is_here (slice_get (blank pieces) s) ≡ is_here (slice_get pieces s)
here_is [] s = refl
here_is (None ∷ xs) zero = refl
here_is (Some p ∷ xs) zero = refl
here_is (x ∷ xs) (suc s) = here_is xs s

asked_one : (s : ℕ) (d : Datum) (st : State (List Cells)) (w : Evicted) → w ≡ says_evicted (Some s) st → asked_by w d ≡ cond (has_piece s (stand_of st)) (d ∷ []) []
asked_one s d Hole w e = rw e refl
asked_one s d (Filled x) w e = rw e refl
asked_one s d (Waiting pieces) w e = rw e (step (slice_get pieces s) ∙ ap (λ b. cond b (d ∷ []) []) (sym (here_is pieces s)))
  where
    step : (place : Option (Option (List Cells))) → asked_by (cond (is_here place) said.Piece said.Nothing) d ≡ cond (is_here place) (d ∷ []) []
    step None = refl
    step (Some None) = refl
    step (Some (Some p)) = refl

pub asked_again : (s : ℕ) (old : Store) (key : Value) (what : Evicted) → what ≡ says_evicted (Some s) (state_of equal old key) → asked_by what (datum_of key) ≡ again s (datum_of key ∷ []) (stands_of old)
asked_again s old key what says = asked_one s (datum_of key) (state_of equal old key) what says ∙ ap (λ st. cond (has_piece s st) (datum_of key ∷ []) []) (sym (stand_is old key))

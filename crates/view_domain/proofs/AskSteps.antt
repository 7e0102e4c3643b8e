-- Requests, keys that begin to wait, and markers.
use Rattle.std.proofs.Common.{◌≡◌, ℕ, zero, suc, ◌+◌, Bool, true, false, not, cond, List, [], ◌∷◌, ◌++◌, map, filter, replicate, refl, ap, ◌∙◌, add-one, true≢false}
use Rattle.row.specs.Cells.{Cells, datum_of, same}
use Rattle.row.specs.Groups.{equal}
use Rattle.row.specs.declared.value.Value.{Value}
use Rattle.partial.specs.States.{State, Hole, Waiting, Filled, state_of, entry_of, order_of, begun, is_hole, OthersStay}
use Rattle.packet.specs.Keys.{stand_of, stands_of, begin_at}
use Rattle.packet.specs.Marks.{Gathering, has_come, complete, partly}
use Rattle.packet.proofs.KeptKeys.{begin_is, keys_stay}
use Rattle.view_domain.specs.Shown.{LeadsTo, rows_at}
use Rattle.view_domain.specs.Taken.{asks_by}
use Rattle.view_domain.proofs.StateSteps.{leads_same}
use Rattle.packet.proofs.KeySteps.{Store, one_key}

-- ---- requests
pub asks_more : (tag : ℕ) (done : List Value) (key : Value) → asks_by tag (map datum_of (done ++ key ∷ [])) ≡ asks_by tag (map datum_of done) ++ record { tag = tag; key = datum_of key } ∷ []
asks_more tag [] key = refl
asks_more tag (k ∷ ks) key = ap (λ asks. record { tag = tag; key = datum_of k } ∷ asks) (asks_more tag ks key)

replicate_last : {X : Type 0} (n : ℕ) (x : X) → x ∷ replicate n x ≡ replicate n x ++ x ∷ []
replicate_last zero x = refl
replicate_last (suc n) x = ap (λ xs. x ∷ xs) (replicate_last n x)

pub replicate_more : {X : Type 0} (n : ℕ) (x : X) → replicate (n + 1) x ≡ replicate n x ++ x ∷ []
replicate_more n x = ap (λ k. replicate k x) (add-one n) ∙ replicate_last n x

-- ---- a key that begins to wait
module _ (old new : Store) (copy key : Value) (is_key : datum_of copy ≡ datum_of key) (n : ℕ) (own : state_of equal new copy ≡ begun n (state_of equal old copy)) (others : OthersStay equal copy old new) (order : order_of new ≡ order_of old) where
  pub begun_is : stands_of new ≡ begin_at n (datum_of key) (stands_of old)
  begun_is = begin_is old new copy others n own order ∙ ap (λ d. begin_at n d (stands_of old)) is_key

  begun_entry : (st : State (List Cells)) → entry_of (begun n st) ≡ entry_of st
  begun_entry Hole = refl
  begun_entry (Waiting pieces) = refl
  begun_entry (Filled e) = refl

  -- nothing is told of it
  pub begun_shown : LeadsTo (rows_at old) [] new
  begun_shown = leads_same old new copy others (rows_at old) [] (ap entry_of own ∙ begun_entry (state_of equal old copy)) (record { each = λ k. refl })

  idle : (st : State (List Cells)) → is_hole st ≡ false → begun n st ≡ st
  idle Hole h = absurd (true≢false h)
  idle (Waiting pieces) h = refl
  idle (Filled e) h = refl

  pub idle_is : is_hole (state_of equal old copy) ≡ false → stands_of new ≡ stands_of old
  idle_is h = keys_stay old new (λ k. ap stand_of (one_key old new copy others (λ st. st) (own ∙ idle (state_of equal old copy) h) k ∙ step (same (datum_of copy) (datum_of k)) (state_of equal old k))) order
    where
      step : (b : Bool) (st : State (List Cells)) → cond b st st ≡ st
      step true st = refl
      step false st = refl

-- ---- markers
pub none_come : (gs : List Gathering) → complete gs ≡ [] → partly gs ≡ gs
none_come [] h = refl
none_come (g ∷ gs) h = step (has_come g) h (none_come gs)
  where
    step : (b : Bool) → map (λ (g : Gathering). g.mark) (cond b (g ∷ filter has_come gs) (filter has_come gs)) ≡ [] → (complete gs ≡ [] → partly gs ≡ gs) → cond (not b) (g ∷ partly gs) (partly gs) ≡ g ∷ gs
    step true h rest = cc
    step false h rest = ap (λ xs. g ∷ xs) (rest h)

pub still_waiting : (gs : List Gathering) → complete (partly gs) ≡ []
still_waiting [] = refl
still_waiting (g ∷ gs) = step (has_come g) refl (still_waiting gs)
  where
    step : (b : Bool) → has_come g ≡ b → complete (partly gs) ≡ [] → complete (cond (not b) (g ∷ partly gs) (partly gs)) ≡ []
    step true e h = h
    step false e h = rw e h

-- What leaves each key as it stands.
use Rattle.std.proofs.Common.{◌≡◌, ℕ, zero, suc, Bool, true, false, cond, List, [], ◌∷◌, Option, Some, None, length, slice_get, refl, ap, sym, ◌∙◌, true≢false, arith}
use Rattle.std.specs.Option.{option_map}
use Rattle.row.specs.BagChanges.{with_records}
use Rattle.row.specs.Cells.{Datum, Cells, datum_of, same}
use Rattle.row.specs.declared.record.Record.{Record}
use Rattle.ops.specs.SideRows.{Rows}
use Rattle.row.proofs.Shards.{same_is}
use Rattle.partial.specs.States.{State, Hole, Waiting, Filled, begun, is_hole, piece_changed}
use Rattle.packet.specs.Keys.{Stand, Keys, begin_at, with_stand}
use Rattle.right_rows.specs.Rights.{piece_after, state_in}
use Rattle.stage_sides.specs.Sides.{TakesPieces, is_open}

same_pieces : (source : ℕ) (pieces : List (Option (List Cells))) → piece_changed with_records [] source pieces (slice_get pieces source) ≡ pieces
same_pieces source [] = refl
same_pieces zero (None ∷ pieces) = refl
same_pieces zero (Some piece ∷ pieces) = refl
same_pieces (suc source) (p ∷ pieces) = step (slice_get pieces source) (same_pieces source pieces)
  where
    step : (place : Option (Option (List Cells))) → piece_changed with_records [] source pieces place ≡ pieces → piece_changed with_records [] (suc source) (p ∷ pieces) place ≡ p ∷ pieces
    step None h = refl
    step (Some place) h = ap (λ ps. p ∷ ps) h

same_state : (source : ℕ) (st : State (List Cells)) → piece_after source [] st ≡ st
same_state source Hole = refl
same_state source (Waiting pieces) = ap Waiting (same_pieces source pieces)
same_state source (Filled rows) = refl

pub takes_none : (source : ℕ) (records : List Record) (side : Rows) → length records ≡ 0 → TakesPieces source records side side
takes_none source [] side none = record { each = λ k. sym (same_state source (state_in side (datum_of k))) }
takes_none source (r ∷ records) side none = absurd (omega (arith, none))

-- a key that is no hole does not begin to wait
same_stand : (n : ℕ) (st : Stand) → is_hole st ≡ false → begun n st ≡ st
same_stand n Hole e = absurd (true≢false e)
same_stand n (Waiting pieces) e = refl
same_stand n (Filled rows) e = refl

same_at : (k : Datum) (st : Stand) (keys : Keys) → st ≡ keys.at k → (x : Datum) → with_stand k st keys x ≡ keys.at x
same_at k st keys e x = step (same k x) refl
  where
    step : (b : Bool) → same k x ≡ b → cond b st (keys.at x) ≡ keys.at x
    step true h = e ∙ ap keys.at (same_is k x h)
    step false h = refl

same_keys : (n : ℕ) (k : Datum) (keys : Keys) → is_hole (keys.at k) ≡ false → begin_at n k keys ≡ keys
same_keys n k keys e = λ i. record keys { at = λ x. same_at k (begun n (keys.at k)) keys (same_stand n (keys.at k) e) x i }

pub begins_none : (n : ℕ) (k : Datum) (keys : Option Keys) → is_open k keys ≡ false → keys ≡ option_map (begin_at n k) keys
begins_none n k None e = refl
begins_none n k (Some keys) e = ap Some (sym (same_keys n k keys e))

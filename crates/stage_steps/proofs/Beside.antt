-- Records beside their keys.
use Rattle.std.proofs.Common.{◌≡◌, ℕ, zero, suc, ◌==◌, Bool, true, false, cond, List, [], ◌∷◌, map, filter, Some, slice_get, refl, ap, sym, ◌∙◌}
use Rattle.std.proofs.lemmas.Bool.{eq-eqb, eqb-true}
use Rattle.row.specs.Cells.{Datum, Cells, cell_at, has, has_shard, passes, same, shard}
use Rattle.row.specs.Bags.{Each}
use Rattle.row.specs.declared.record.Record.{Record}
use Rattle.row.proofs.Shards.{same_is}
use Rattle.packet.specs.Messages.{KeyedRecord}
use Rattle.packet.specs.Truth.{changes_at, records_for}
use Rattle.stage_steps.specs.Told.{keyed_for}

-- a cell that passes is there
passed_cell : (test : Datum → Bool) (row : Cells) (c : ℕ) → passes test (slice_get row c) ≡ true → slice_get row c ≡ Some (cell_at row c)
passed_cell test [] c h = cc
passed_cell test (y ∷ row) zero h = refl
passed_cell test (y ∷ row) (suc c) h = passed_cell test row c h

module _ (c n j : ℕ) (k : Datum) (of : shard k n ≡ j) where
  own_key : (row : Cells) → has_shard c n j row ≡ true → has c k row ≡ same (cell_at row c) k
  own_key row h = ap (passes (λ x. same x k)) (passed_cell (λ x. shard x n == j) row c h)

  no_key : (row : Cells) → has_shard c n j row ≡ false → has c k row ≡ false
  no_key row h = by (has c k row) refl
    where
      by : (b : Bool) → has c k row ≡ b → has c k row ≡ false
      by false e = e
      by true e =
          let there = passed_cell (λ x. same x k) row c e in
          let is : cell_at row c ≡ k = same_is (cell_at row c) k (sym (ap (passes (λ x. same x k)) there) ∙ e) in
          let in_shard : has_shard c n j row ≡ true = ap (passes (λ x. shard x n == j)) there ∙ eq-eqb (shard (cell_at row c) n) j (ap (λ x. shard x n) is ∙ of) in
          cc

  -- the records of a key of the shard are those of rows that have it
  pub changes_of_key : (records : List Record) → changes_at k (keyed_for c n j records) ≡ filter (λ (r : Record). has c k r.row) records
  changes_of_key [] = refl
  changes_of_key (r ∷ rs) = step (has_shard c n j r.row) refl (changes_of_key rs)
    where
      kept : (b : Bool) → changes_at k (keyed_for c n j rs) ≡ filter (λ (r : Record). has c k r.row) rs
          → map (λ (c : KeyedRecord). c.change) (cond b (record { key = cell_at r.row c; change = r } ∷ filter (λ (x : KeyedRecord). same x.key k) (keyed_for c n j rs)) (filter (λ (x : KeyedRecord). same x.key k) (keyed_for c n j rs)))
          ≡ cond b (r ∷ filter (λ (r : Record). has c k r.row) rs) (filter (λ (r : Record). has c k r.row) rs)
      kept true e = ap (λ t. r ∷ t) e
      kept false e = e

      step : (b : Bool) → has_shard c n j r.row ≡ b → changes_at k (keyed_for c n j rs) ≡ filter (λ (r : Record). has c k r.row) rs
          → changes_at k (map (λ (r : Record). record { key = cell_at r.row c; change = r }) (cond b (r ∷ records_for c n j rs) (records_for c n j rs))) ≡ cond (has c k r.row) (r ∷ filter (λ (r : Record). has c k r.row) rs) (filter (λ (r : Record). has c k r.row) rs)
      step true e rest = rw (own_key r.row e) (kept (same (cell_at r.row c) k) rest)
      step false e rest = rw (no_key r.row e) rest

-- each key is of the shard
pub keys_of_shard : (P : Datum → Type 0) (c n j : ℕ) → ((k : Datum) → shard k n ≡ j → P k) → (records : List Record) → Each (λ (c : KeyedRecord). P c.key) (keyed_for c n j records)
keys_of_shard P c n j f [] = tt
keys_of_shard P c n j f (r ∷ rs) = step (has_shard c n j r.row) refl (keys_of_shard P c n j f rs)
  where
    step : (b : Bool) → has_shard c n j r.row ≡ b → Each (λ (c : KeyedRecord). P c.key) (keyed_for c n j rs) → Each (λ (c : KeyedRecord). P c.key) (map (λ (r : Record). record { key = cell_at r.row c; change = r }) (cond b (r ∷ records_for c n j rs) (records_for c n j rs)))
    step true e rest = (f (cell_at r.row c) (eqb-true (shard (cell_at r.row c) n) j (sym (ap (passes (λ x. shard x n == j)) (passed_cell (λ x. shard x n == j) r.row c e)) ∙ e)), rest)
    step false e rest = rest

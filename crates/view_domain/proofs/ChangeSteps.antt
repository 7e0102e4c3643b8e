-- The records of keys: one key, and what is left to do.
use Rattle.std.proofs.Common.{◌≡◌, ℕ, ◌++◌, List, [], Option, Some, None, refl, ap, sym, ◌∙◌}
use Rattle.std.proofs.lemmas.List.{append-nil}
use Rattle.std.specs.Option.{option_map}
use Rattle.row.specs.BagChanges.{with_records}
use Rattle.row.specs.Cells.{Cells}
use Rattle.row.specs.Groups.{equal}
use Rattle.row.specs.declared.record.Record.{Record}
use Rattle.row.specs.declared.value.Value.{Value}
use Rattle.partial.specs.States.{State, Hole, Waiting, Filled, state_of, entry_of, after_change, OthersStay}
use Rattle.view_domain.specs.declared.shown.KeyChange.{KeyChange}
use Rattle.view_domain.specs.declared.shown.KeyChange.TheVariants.{Fills}
use Rattle.view_domain.specs.Shown.{LeadsTo, rows_at, told_of}
use Rattle.packet.proofs.KeySteps.{Store}
use Rattle.view_domain.proofs.StateSteps.{leads_push, leads_same}

-- ---- one key
entry_after : (s : ℕ) (records : List Record) (st : State (List Cells)) → entry_of (after_change with_records s records st) ≡ option_map (λ e. with_records e records) (entry_of st)
entry_after s records Hole = refl
entry_after s records (Waiting pieces) = refl
entry_after s records (Filled e) = refl

none_before : {A B : Type 0} (f : A → B) (o : Option A) → option_map f o ≡ None → o ≡ None
none_before f None h = refl
none_before f (Some x) h = cc

-- a key takes the records, and where it is filled its rows are told
pub leads_changed : (first : Value → Option (List Cells)) (cs : List KeyChange) (key : Value) (old new : Store) (s : ℕ) (records : List Record)
    → state_of equal new key ≡ after_change with_records s records (state_of equal old key) → OthersStay equal key old new → LeadsTo first cs old → LeadsTo first (cs ++ told_of key (rows_at new key)) new
leads_changed first cs key old new s records state others h = step (rows_at new key) refl
  where
    step : (o : Option (List Cells)) → rows_at new key ≡ o → LeadsTo first (cs ++ told_of key o) new
    step None e =
        let gone : rows_at old key ≡ None = none_before (λ e. with_records e records) (rows_at old key) (sym (entry_after s records (state_of equal old key)) ∙ (sym (ap entry_of state) ∙ e)) in
        rw (append-nil cs) (leads_same old new key others first cs (e ∙ sym gone) h)
    step (Some rows) e = leads_push old new (Fills key rows) others first cs e h

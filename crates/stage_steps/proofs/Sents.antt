-- The packet of an entry to each view shard is true.
use Rattle.std.proofs.Common.{◌≡◌, ℕ, zero, suc, Bool, true, false, not, cond, List, [], ◌∷◌, map, filter, None, slice_index_or, refl, ap, sym, ◌∙◌, subst, true≢false}
use Rattle.std.proofs.lemmas.Bool.{eq-eqb}
use Rattle.row.specs.Bags.{Each, sorted}
use Rattle.row.specs.Cells.{Cells, Datum, datum_cmp, datum_of, has, same}
use Rattle.row.specs.Changes.{Turns}
use Rattle.row.specs.declared.record.Record.{Record}
use Rattle.row.proofs.Shards.{same_is}
use Rattle.plan.specs.Layouts.{Layout, ViewLayout, view_at}
use Rattle.plan.specs.Outputs.{keys_of}
use Rattle.model.specs.Histories.{view_shard}
use Rattle.model.specs.Queries.{Line, part}
use Rattle.packet.specs.Keys.{Ascends, is_among}
use Rattle.packet.specs.Messages.{KeyedRecord}
use Rattle.packet.specs.Readers.{Reader, is_of}
use Rattle.packet.specs.Truth.{Grows, IsLine, IsTold, IsTrueStage, changes_at}
use Rattle.packet.proofs.Ascending.{ascends_filter, ascends_keys}
use Rattle.protocol.proofs.Spots.{is_same}
use Rattle.stage_steps.specs.Sides.{names_of}
use Rattle.stage_steps.specs.Told.{evicts_at, key_column, keyed_at, told, told_changes}
use Rattle.stage_steps.proofs.Beside.{changes_of_key, keys_of_shard}

-- ---- records but those of keys that are evicted
changes_told : (evicts : List Datum) (k : Datum) → is_among evicts k ≡ false → (cs : List KeyedRecord) → changes_at k (told_changes evicts cs) ≡ changes_at k cs
changes_told evicts k none [] = refl
changes_told evicts k none (c ∷ cs) = step (same c.key k) (is_among evicts c.key) refl refl (changes_told evicts k none cs)
  where
    step : (a b : Bool) → same c.key k ≡ a → is_among evicts c.key ≡ b → changes_at k (told_changes evicts cs) ≡ changes_at k cs
        → changes_at k (cond (not b) (c ∷ told_changes evicts cs) (told_changes evicts cs)) ≡ map (λ (c : KeyedRecord). c.change) (cond a (c ∷ filter (λ (c : KeyedRecord). same c.key k) cs) (filter (λ (c : KeyedRecord). same c.key k) cs))
    step true true e f rest = absurd (true≢false (sym f ∙ (ap (is_among evicts) (same_is c.key k e) ∙ none)))
    step true false e f rest = rw e (ap (λ l. c.change ∷ l) rest)
    step false true e f rest = rest
    step false false e f rest = rw e rest

told_each : (P : Datum → Type 0) (evicts : List Datum) (cs : List KeyedRecord) → Each (λ (c : KeyedRecord). is_among evicts c.key ≡ false → P c.key) cs → Each (λ (c : KeyedRecord). P c.key) (told_changes evicts cs)
told_each P evicts [] h = tt
told_each P evicts (c ∷ cs) h = step (is_among evicts c.key) refl (told_each P evicts cs h.1)
  where
    step : (b : Bool) → is_among evicts c.key ≡ b → Each (λ (c : KeyedRecord). P c.key) (told_changes evicts cs) → Each (λ (c : KeyedRecord). P c.key) (cond (not b) (c ∷ told_changes evicts cs) (told_changes evicts cs))
    step true e rest = rest
    step false e rest = (h.0 e, rest)

own_of : (p : Layout) (r : Reader) (k : Datum) → view_shard p r.view k ≡ r.shard → is_of p r.view k r ≡ true
own_of p r k e = rw (is_same r.view) (eq-eqb r.shard (view_shard p r.view k) (sym e))

module _ (p : Layout) (s : ℕ) (from to : Line) (records : List Record) (rows : List Cells) (grows : Grows from to) (line : IsLine p to) (r : Reader) where
  -- its turn at each key of the reader that is not evicted
  abbrev pub TurnsSpared : Type 0
  TurnsSpared = (k : Datum) → is_of p r.view k r ≡ true → is_among (evicts_at p (names_of p rows) r) k ≡ false → Turns (part p s from r.view k) (filter (λ (c : Record). has (key_column p r.view) k c.row) records) (part p s to r.view k)

  pub told_true : TurnsSpared → IsTrueStage (told p s from to records (names_of p rows) None r)
  told_true turns = record {
    grows = grows;
    line = line;
    order = ascends_filter (λ k. is_of p r.view k r) (slice_index_or (names_of p rows) r.view []) (ascend p.views r.view);
    turns = λ k of none. subst (λ rs. Turns (part p s from r.view (datum_of k)) rs (part p s to r.view (datum_of k)))
        (sym (changes_told (evicts_at p (names_of p rows) r) (datum_of k) none (keyed_at p r.view r.shard records) ∙ changes_of_key (key_column p r.view) (view_at p r.view).shards r.shard (datum_of k) of records)) (turns (datum_of k) (own_of p r (datum_of k) of) none);
    told = told_each (IsTold (told p s from to records (names_of p rows) None r)) (evicts_at p (names_of p rows) r) (keyed_at p r.view r.shard records)
        (keys_of_shard (λ d. is_among (evicts_at p (names_of p rows) r) d ≡ false → IsTold (told p s from to records (names_of p rows) None r) d) (key_column p r.view) (view_at p r.view).shards r.shard (λ k of none. record { shard = of; kept = none }) records);
    piece = tt;
    alone = tt;
    marker = tt;
  }
    where
      ascend : (vs : List ViewLayout) (i : ℕ) → Ascends (slice_index_or (map (λ (v : ViewLayout). sorted datum_cmp (keys_of v.key rows)) vs) i [])
      ascend [] i = tt
      ascend (v ∷ vs) zero = ascends_keys v.key rows
      ascend (v ∷ vs) (suc i) = ascend vs i

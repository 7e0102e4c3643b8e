-- One more reader, and one more view.
use Rattle.std.proofs.Common.{◌≡◌, ℕ, ◌+◌, List, [], ◌∷◌, ◌++◌, map, flat_map, refl, ap, sym, ◌∙◌}
use Rattle.std.specs.List.{range_with_len}
use Rattle.std.proofs.lemmas.List.{map-append}
use Rattle.plan.proofs.Ranges.{put_more, flat_map_more}
use Rattle.plan.specs.Layouts.{Layout, view_at}
use Rattle.row.specs.Cells.{Datum}
use Rattle.row.specs.declared.record.Record.{Record}
use Rattle.packet.specs.Messages.{KeyedRecord}
use Rattle.packet.specs.Readers.{Reader, readers_of}
use Rattle.stage_steps.specs.Told.{key_column, keyed_for, keyed_at, told_changes}
use Rattle.std.proofs.lemmas.Simd.{map-map}

pub put_reader : {X : Type 0} (f : Reader → X) (i : ℕ) (old now then : List X) (n : ℕ) → now ≡ old ++ map f (map (λ j. record { view = i; shard = j }) (range_with_len 0 n)) → then ≡ now ++ f (record { view = i; shard = n }) ∷ []
    → then ≡ old ++ map f (map (λ j. record { view = i; shard = j }) (range_with_len 0 (n + 1)))
put_reader f i old now then n before put =
    put_more (λ j. f (record { view = i; shard = j })) old now then n (before ∙ ap (λ t. old ++ t) (map-map f (λ j. record { view = i; shard = j }) (range_with_len 0 n))) put
    ∙ ap (λ t. old ++ t) (sym (map-map f (λ j. record { view = i; shard = j }) (range_with_len 0 (n + 1))))

pub put_view : {X : Type 0} (f : Reader → X) (p : Layout) (now then : List X) (n : ℕ) → now ≡ map f (flat_map (readers_of p) (range_with_len 0 n)) → then ≡ now ++ map f (readers_of p n) → then ≡ map f (flat_map (readers_of p) (range_with_len 0 (n + 1)))
put_view f p now then n before put =
    put ∙ (ap (λ t. t ++ map f (readers_of p n)) before ∙ (sym (map-append f (flat_map (readers_of p) (range_with_len 0 n)) (readers_of p n)) ∙ ap (map f) (sym (flat_map_more (readers_of p) n))))

-- the records of a view shard, by the numbers that the code has of it
pub told_is : (p : Layout) (i j column shards : ℕ) (records : List Record) (items : List KeyedRecord) (keys evicts : List Datum) → items ≡ told_changes keys (keyed_for column shards j records) → column ≡ key_column p i → shards ≡ (view_at p i).shards → keys ≡ evicts
    → items ≡ told_changes evicts (keyed_at p i j records)
told_is p i j column shards records items keys evicts is c n e = rw (is, c, n, e) refl

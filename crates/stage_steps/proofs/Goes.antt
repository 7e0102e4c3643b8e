-- A stage key goes: it becomes a hole, and each view shard is told of its keys.
use Rattle.std.proofs.Common.{◌≡◌, ℕ, zero, suc, ◌+◌, ◌<◌, Bool, true, false, cond, ◌||◌, List, [], ◌∷◌, map, flat_map, length, Option, Some, None, slice_get, refl, ap, sym, ◌∙◌, arith}
use Rattle.std.specs.List.{list_any, range_with_len}
use Rattle.std.specs.Option.{option_map}
use Rattle.std.specs.Set.{remove_key}
use Rattle.row.specs.Bags.{Each}
use Rattle.row.specs.Cells.{Datum, same}
use Rattle.row.proofs.Shards.{same_is}
use Rattle.ops.specs.SideRows.{Rows, is_here, is_of as is_one}
use Rattle.partial.specs.States.{Filled, Hole, Waiting, evicted, is_filled}
use Rattle.plan.specs.Layouts.{Layout, view_at}
use Rattle.model.specs.Places.{sources}
use Rattle.model.specs.Queries.{Line}
use Rattle.packet.specs.Keys.{Keys, Stand, open_at, with_stand}
use Rattle.packet.specs.Lines.{entries_of}
use Rattle.packet.specs.Messages.{Sent, none_of}
use Rattle.packet.specs.Named.{for_each, named}
use Rattle.packet.specs.Outboxes.{packets_on}
use Rattle.packet.specs.Readers.{Reader, readers, readers_of}
use Rattle.packet.specs.Truth.{Pointwise, sent_of}
use Rattle.protocol.specs.Stages.{Done, Stage, keys_for, of_stage_key}
use Rattle.protocol.specs.StageSteps.{append_each, first_goes, goes, notice, oldest_goes, order_taken, quiet}
use Rattle.right_rows.specs.Rights.{keys_in}
use Rattle.stage_sides.specs.Held.{Held}
use Rattle.stage_sides.specs.Sides.{first_filled, is_closed, is_known}
use Rattle.stage_steps.specs.Outboxes.{AreEdges, OutboxView}
use Rattle.stage_steps.specs.Shards.{IsPut, IsTo, Shard, gone_names, gone_to, stage_of}
use Rattle.stage_steps.specs.Told.{evicts_at, is_told, perhaps, told, told_if}
use Rattle.stage_steps.proofs.Puts.{after, no_asks, put_after, put_quiet}
use Rattle.stage_steps.proofs.Wholes.{keys_by}
use Rattle.stage_steps.proofs.Untold.{evicts_are}
use Rattle.plan.proofs.OwnTexts.{each_join}
use Rattle.row.proofs.Keys.{same_flip}

pub for_none : {X : Type 0} (f : Option (List Datum) → Reader → X) (rs : List Reader) → for_each f None rs ≡ map (f None) rs
for_none f [] = refl
for_none f (r ∷ rs) = ap (λ l. f None r ∷ l) (for_none f rs)

-- ---- readers are of views that there are

of_view : (P : Reader → Type 0) (i : ℕ) (js : List ℕ) → ((j : ℕ) → P (record { view = i; shard = j })) → Each P (map (λ j. record { view = i; shard = j }) js)
of_view P i [] h = tt
of_view P i (j ∷ js) h = (h j, of_view P i js h)

views_below : (p : Layout) (m a n : ℕ) → a + n ≡ m → Each (λ (r : Reader). r.view < m) (flat_map (readers_of p) (range_with_len a n))
views_below p m a zero at = tt
views_below p m a (suc n) at =
    let below : a < m = omega (arith, at) in
    each_join (λ (r : Reader). r.view < m) (readers_of p a) (flat_map (readers_of p) (range_with_len (a + 1) n)) (of_view (λ (r : Reader). r.view < m) a (range_with_len 0 (view_at p a).shards) (λ j. below)) (views_below p m (a + 1) n (omega (arith, at)))

readers_below : (p : Layout) → Each (λ (r : Reader). r.view < length p.views) (readers p)
readers_below p = views_below p (length p.views) 0 (length p.views) (omega arith)

-- ---- what is told as it goes

sent_by : (p : Layout) (s : ℕ) (line : Line) (names : List (List Datum)) (r : Reader) (ks : List Datum) → evicts_at p names r ≡ ks → map sent_of (perhaps (told_if false p s line line [] names None r)) ≡ notice line ks
sent_by p s line names r ks e = step (evicts_at p names r) ∙ ap (notice line) e
  where
    step : (es : List Datum) → map sent_of (perhaps (cond (is_told false es) (Some (record { plan = p; stage = s; view = r.view; shard = r.shard; from = line; to = line; changes = []; evicts = es; piece = None; marker = None })) None)) ≡ notice line es
    step [] = refl
    step (d ∷ ds) = refl

sent_each : (x : Shard) (k : Datum) (rs : List Reader) → Each (λ (r : Reader). r.view < length x.plan.views) rs → map (map sent_of) (map (gone_to x k) rs) ≡ map (λ r. notice (entries_of x.line) (keys_for x.plan (of_stage_key (stage_of x) k) r)) rs
sent_each x k [] h = refl
sent_each x k (r ∷ rs) h = λ i. sent_by x.plan x.shard (entries_of x.line) (gone_names x k) r (keys_for x.plan (of_stage_key (stage_of x) k) r) (evicts_are x.plan (of_stage_key (stage_of x) k) r h.0) i ∷ sent_each x k rs h.1 i

pub gone_sent : (x : Shard) (k : Datum) → map (map sent_of) (map (gone_to x k) (readers x.plan)) ≡ map (λ r. notice (entries_of x.line) (keys_for x.plan (of_stage_key (stage_of x) k) r)) (readers x.plan)
gone_sent x k = sent_each x k (readers x.plan) (readers_below x.plan)

to_one_of : (x : Shard) (k : Datum) (r : Reader) → Each (IsTo x.plan x.shard r) (gone_to x k r)
to_one_of x k r = step (is_told false (evicts_at x.plan (gone_names x k) r))
  where
    step : (b : Bool) → Each (IsTo x.plan x.shard r) (perhaps (cond b (Some (told x.plan x.shard (entries_of x.line) (entries_of x.line) [] (gone_names x k) None r)) None))
    step true = (record { plan = refl; stage = refl; view = refl; shard = refl }, tt)
    step false = tt

to_each : (x : Shard) (k : Datum) (rs : List Reader) → Pointwise (λ r xs. Each (IsTo x.plan x.shard r) xs) rs (map (gone_to x k) rs)
to_each x k [] = tt
to_each x k (r ∷ rs) = (to_one_of x k r, to_each x k rs)

pub gone_is_to : (x : Shard) (k : Datum) → Pointwise (λ r xs. Each (IsTo x.plan x.shard r) xs) (readers x.plan) (map (gone_to x k) (readers x.plan))
gone_is_to x k = to_each x k (readers x.plan)

-- ---- what the protocol says of it
abbrev pub gone : Shard → Datum → Option Keys → Done
gone x k right = record { stage = record (stage_of x) { right = right }; sent = map (λ r. notice (entries_of x.line) (keys_for x.plan (of_stage_key (stage_of x) k) r)) (readers x.plan); requests = none_of (sources x.plan) }

goes_is : (x : Shard) (k : Datum) (keys : Keys) → goes (stage_of x) keys k ≡ gone x k (Some (open_at k keys))
goes_is x k keys = ap (λ (sent : List (List Sent)). record { stage = record (stage_of x) { right = Some (open_at k keys) }; sent = sent; requests = none_of (sources x.plan) }) (for_none (λ asked r. notice (entries_of x.line) (named asked (keys_for x.plan (of_stage_key (stage_of x) k) r))) (readers x.plan))

pub evicted_is : (x : Shard) (k : Datum) → is_closed k (keys_in x.rows.right) ≡ true → order_taken (stage_of x) (keys_in x.rows.right) k ≡ gone x k (option_map (open_at k) (keys_in x.rows.right))
evicted_is x k = step (keys_in x.rows.right)
  where
    step : (o : Option Keys) → is_closed k o ≡ true → order_taken (stage_of x) o k ≡ gone x k (option_map (open_at k) o)
    step None e = cc
    step (Some keys) e = ap (λ b. cond b (goes (stage_of x) keys k) (quiet (stage_of x))) e ∙ goes_is x k keys

stays_is : (x : Shard) (k : Datum) → is_closed k (keys_in x.rows.right) ≡ false → order_taken (stage_of x) (keys_in x.rows.right) k ≡ quiet (stage_of x)
stays_is x k = step (keys_in x.rows.right)
  where
    step : (o : Option Keys) → is_closed k o ≡ false → order_taken (stage_of x) o k ≡ quiet (stage_of x)
    step None e = refl
    step (Some keys) e = ap (λ b. cond b (goes (stage_of x) keys k) (quiet (stage_of x))) e

first_is : (x : Shard) (k : Datum) (keys : Keys) (order : List Datum) → Some k ≡ slice_get order 0 → first_goes (stage_of x) keys order ≡ goes (stage_of x) keys k
first_is x k keys [] e = cc
first_is x k keys (d ∷ ds) e = let is : Some d ≡ Some k = sym e in cc

none_is : (x : Shard) (keys : Keys) (order : List Datum) → None ≡ slice_get order 0 → first_goes (stage_of x) keys order ≡ quiet (stage_of x)
none_is x keys [] e = refl
none_is x keys (d ∷ ds) e = cc

oldest_is : (x : Shard) (k : Datum) → Some k ≡ first_filled (keys_in x.rows.right) → oldest_goes (stage_of x) (keys_in x.rows.right) ≡ gone x k (option_map (open_at k) (keys_in x.rows.right))
oldest_is x k = step (keys_in x.rows.right)
  where
    step : (o : Option Keys) → Some k ≡ first_filled o → oldest_goes (stage_of x) o ≡ gone x k (option_map (open_at k) o)
    step None e = cc
    step (Some keys) e = first_is x k keys keys.order e ∙ goes_is x k keys

none_oldest : (x : Shard) → None ≡ first_filled (keys_in x.rows.right) → oldest_goes (stage_of x) (keys_in x.rows.right) ≡ quiet (stage_of x)
none_oldest x = step (keys_in x.rows.right)
  where
    step : (o : Option Keys) → None ≡ first_filled o → oldest_goes (stage_of x) o ≡ quiet (stage_of x)
    step None e = refl
    step (Some keys) e = none_is x keys keys.order e

-- ---- a key that is not filled stays as it is
unfilled_stays : (st : Stand) → is_filled st ≡ false → evicted None st ≡ st
unfilled_stays Hole e = refl
unfilled_stays (Waiting pieces) e = refl
unfilled_stays (Filled x) e = cc

removed_none : (k : Datum) (order : List Datum) → list_any (λ y. same y k) order ≡ false → remove_key (same k) order ≡ order
removed_none k [] e = refl
removed_none k (d ∷ ds) e = step (same d k) refl e (removed_none k ds)
  where
    step : (b : Bool) → same d k ≡ b → (b || list_any (λ y. same y k) ds) ≡ false → (list_any (λ y. same y k) ds ≡ false → remove_key (same k) ds ≡ ds) → cond (same k d) ds (d ∷ remove_key (same k) ds) ≡ d ∷ ds
    step true is e rest = cc
    step false is e rest = rw (same_flip k d ∙ is) (ap (λ l. d ∷ l) (rest e))

at_stays : (k : Datum) (keys : Keys) → is_filled (keys.at k) ≡ false → (x : Datum) → with_stand k (evicted None (keys.at k)) keys x ≡ keys.at x
at_stays k keys e x = step (same k x) refl
  where
    step : (b : Bool) → same k x ≡ b → cond b (evicted None (keys.at k)) (keys.at x) ≡ keys.at x
    step true is = unfilled_stays (keys.at k) e ∙ ap keys.at (same_is k x is)
    step false is = refl

pub stays_open : (i : Rows) (k : Datum) → is_here i k ≡ is_known k (keys_in i) → is_closed k (keys_in i) ≡ false → option_map (open_at k) (keys_in i) ≡ keys_in i
stays_open i k = step i.keys
  where
    step : (o : Option (List Datum)) → is_one o k ≡ is_known k (option_map (keys_by i) o) → is_closed k (option_map (keys_by i) o) ≡ false → option_map (open_at k) (option_map (keys_by i) o) ≡ option_map (keys_by i) o
    step None known closed = refl
    step (Some order) known closed = λ j. Some (record { at = λ x. at_stays k (keys_by i order) closed x j; order = removed_none k order (known ∙ closed) j })

-- ---- put out
pub put_stays : (x : Shard) (rows : Held) (k : Datum) (d : Done) (out : OutboxView) → IsPut d out x → AreEdges x.plan out → keys_in rows.right ≡ option_map (open_at k) (keys_in x.rows.right) → is_here x.rows.right k ≡ is_known k (keys_in x.rows.right) → is_closed k (keys_in x.rows.right) ≡ false
    → IsPut (after d (order_taken d.stage d.stage.right k)) out (record x { rows = rows })
put_stays x rows k d out put edges keys known closed =
    let same : stage_of (record x { rows = rows }) ≡ stage_of x = ap (λ (o : Option Keys). record (stage_of x) { right = o }) (keys ∙ stays_open x.rows.right k known closed) in
    put_quiet d (order_taken d.stage d.stage.right k) out x (record x { rows = rows }) put edges refl refl (ap (λ (s : Stage). order_taken s s.right k) (sym put.stage) ∙ (stays_is x k closed ∙ ap quiet (sym same)))

pub put_none : (x : Shard) (rows : Held) (d : Done) (out : OutboxView) → IsPut d out x → AreEdges x.plan out → rows ≡ x.rows → None ≡ first_filled (keys_in x.rows.right) → IsPut (after d (oldest_goes d.stage d.stage.right)) out (record x { rows = rows })
put_none x rows d out put edges same none =
    put_quiet d (oldest_goes d.stage d.stage.right) out x (record x { rows = rows }) put edges refl refl (ap (λ (s : Stage). oldest_goes s s.right) (sym put.stage) ∙ (none_oldest x none ∙ ap (λ (rows : Held). quiet (stage_of (record x { rows = rows }))) (sym same)))

module _ (x : Shard) (rows : Held) (k : Datum) (d : Done) (out new : OutboxView) (put : IsPut d out x) (is : rows ≡ record x.rows { right = rows.right }) (edges : AreEdges x.plan out) (keys : keys_in rows.right ≡ option_map (open_at k) (keys_in x.rows.right))
    (told : packets_on new.packets ≡ append_each (packets_on out.packets) (map (gone_to (record x { rows = rows }) k) (readers x.plan))) (same_asks : new.requests ≡ out.requests) where
  put_gone : (e : Done) → e ≡ gone x k (option_map (open_at k) (keys_in x.rows.right)) → IsPut (after d e) new (record x { rows = rows })
  put_gone e goes =
      put_after d e out new x (record x { rows = rows }) put refl refl (map (gone_to x k) (readers x.plan)) (ap (λ (o : Option Keys). record (stage_of x) { right = o }) keys ∙ sym (ap (λ (e : Done). e.stage) goes))
      told (gone_sent x k ∙ sym (ap (λ (e : Done). e.sent) goes)) (gone_is_to x k)
      (ap packets_on same_asks ∙ (sym (no_asks x.plan out edges) ∙ ap (append_each (packets_on out.requests)) (sym (ap (λ (e : Done). e.requests) goes))))

  pub put_evicted : is_closed k (keys_in x.rows.right) ≡ true → IsPut (after d (order_taken d.stage d.stage.right k)) new (record x { rows = rows })
  put_evicted was = put_gone (order_taken d.stage d.stage.right k) (ap (λ (s : Stage). order_taken s s.right k) (sym put.stage) ∙ evicted_is x k was)

  pub put_oldest : Some k ≡ first_filled (keys_in x.rows.right) → IsPut (after d (oldest_goes d.stage d.stage.right)) new (record x { rows = rows })
  put_oldest first = put_gone (oldest_goes d.stage d.stage.right) (ap (λ (s : Stage). oldest_goes s s.right) (sym put.stage) ∙ oldest_is x k first)

-- The step of an entry, as the protocol says it.
use Rattle.std.proofs.Common.{◌≡◌, ℕ, ◌+◌, ◌<◌, true, List, [], ◌∷◌, map, length, Option, None, slice_set, refl, ap, sym, ◌∙◌, subst, arith}
use Rattle.std.specs.List.{range_with_len}
use Rattle.row.specs.Bags.{Each}
use Rattle.row.specs.Cells.{Cells}
use Rattle.row.specs.declared.record.Record.{Record}
use Rattle.plan.specs.Layouts.{Layout, view_at}
use Rattle.model.specs.Queries.{Line}
use Rattle.packet.specs.Lines.{entries_of}
use Rattle.packet.specs.Messages.{BasePacketView, StagePacketView}
use Rattle.packet.specs.Named.{for_each, named}
use Rattle.packet.specs.Outboxes.{packets_on}
use Rattle.packet.specs.Readers.{Reader, readers, readers_of}
use Rattle.packet.specs.Truth.{Pointwise, sent_of}
use Rattle.protocol.specs.Stages.{Done, Stage, keys_for}
use Rattle.protocol.specs.StageSteps.{append_each, entry_taken, moved, next, unknown}
use Rattle.protocol.proofs.Spots.{each_range}
use Rattle.right_rows.specs.Rights.{keys_in}
use Rattle.stage_steps.specs.Outboxes.{AreEdges, OutboxView}
use Rattle.stage_steps.specs.Shards.{IsPut, IsTo, Shard, entry_names, seen, stage_of}
use Rattle.stage_steps.specs.Sides.{names_of}
use Rattle.stage_steps.specs.Told.{perhaps, told_if}
use Rattle.stage_steps.proofs.Puts.{after, no_asks, put_after}
use Rattle.stage_steps.proofs.Untold.{evicts_are}
use Rattle.protocol.proofs.Owns.{each_flat}

-- ---- each reader is of a view of the plan
of_view : (n i : ℕ) (js : List ℕ) → i < n → Each (λ (r : Reader). r.view < n) (map (λ j. record { view = i; shard = j }) js)
of_view n i [] lt = tt
of_view n i (j ∷ js) lt = (lt, of_view n i js lt)

views_of : (p : Layout) → Each (λ (r : Reader). r.view < length p.views) (readers p)
views_of p =
    each_flat (λ (r : Reader). r.view < length p.views) (readers_of p) (range_with_len 0 (length p.views))
    (each_range (λ i. Each (λ (r : Reader). r.view < length p.views) (readers_of p i)) 0 (length p.views) (λ k lt. of_view (length p.views) (0 + k) (range_with_len 0 (view_at p (0 + k)).shards) (omega (arith, lt))))

-- ---- what is told
module _ (p : Layout) (s : ℕ) (from to : Line) (records : List Record) (rows : List Cells) where
  abbrev told_to : Reader → Option StagePacketView
  told_to = told_if true p s from to records (names_of p rows) None

  sents_are : (rs : List Reader) → Each (λ (r : Reader). r.view < length p.views) rs → map (map sent_of) (map perhaps (map told_to rs)) ≡ for_each (λ asked r. moved from to (named asked (keys_for p rows r)) ∷ []) None rs
  sents_are [] h = refl
  sents_are (r ∷ rs) h = let rest = sents_are rs h.1 in λ i. (moved from to (evicts_are p rows r h.0 i) ∷ []) ∷ rest i

  are_to : (rs : List Reader) → Pointwise (λ r xs. Each (IsTo p s r) xs) rs (map perhaps (map told_to rs))
  are_to [] = tt
  are_to (r ∷ rs) = ((record { plan = refl; stage = refl; view = refl; shard = refl }, tt), are_to rs)

-- ---- the step
module _ (d : Done) (out new : OutboxView) (x y : Shard) (j : ℕ) (k : BasePacketView) (records : List Record) (items : List (Option StagePacketView)) (put : IsPut d out x) (edges : AreEdges x.plan out) where
  abbrev rows : List Cells
  rows = unknown (seen x.plan x.shard (entries_of x.line) (keys_in x.rows.right)) j k.changes

  abbrev later : Line
  later = slice_set (entries_of x.line) j k.to

  abbrev done : Done
  done = entry_taken (stage_of x) j k

  pub entered : y.plan ≡ x.plan → y.shard ≡ x.shard → y.pending ≡ x.pending → y.marks ≡ x.marks → entries_of y.line ≡ later → keys_in y.rows.right ≡ keys_in x.rows.right
      → items ≡ map (told_if true x.plan x.shard (entries_of x.line) later records (entry_names x.plan x.shard (entries_of x.line) (keys_in x.rows.right) j k.changes) None) (readers x.plan)
      → packets_on new.packets ≡ append_each (packets_on out.packets) (map perhaps items) → new.requests ≡ out.requests → IsPut (next d (λ s. entry_taken s j k)) new y
  entered plan shard pending marks line keys is told requests =
      let stage : stage_of y ≡ done.stage = λ i. record { plan = plan i; shard = shard i; line = line i; right = keys i; pending = pending i; asked = None; marks = (marks i).waiting } in
      let are : map (map sent_of) (map perhaps items) ≡ done.sent = ap (λ l. map (map sent_of) (map perhaps l)) is ∙ sents_are x.plan x.shard (entries_of x.line) later records rows (readers x.plan) (views_of x.plan) in
      let to : Pointwise (λ r xs. Each (IsTo x.plan x.shard r) xs) (readers x.plan) (map perhaps items) =
      subst (λ l. Pointwise (λ r xs. Each (IsTo x.plan x.shard r) xs) (readers x.plan) (map perhaps l)) (sym is) (are_to x.plan x.shard (entries_of x.line) later records rows (readers x.plan)) in
      let asked : packets_on new.requests ≡ append_each (packets_on out.requests) done.requests = ap packets_on requests ∙ sym (no_asks x.plan out edges) in
      subst (λ (s : Stage). IsPut (after d (entry_taken s j k)) new y) put.stage (put_after d done out new x y put plan shard (map perhaps items) stage told are to asked)

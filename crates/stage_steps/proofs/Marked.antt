-- A marker that has come from a source.
use Rattle.std.proofs.Common.{◌≡◌, ℕ, true, List, [], ◌∷◌, map, length, Some, refl, ap, sym, ◌∙◌}
use Rattle.row.specs.Bags.{Each}
use Rattle.plan.specs.Layouts.{Layout}
use Rattle.model.specs.Places.{sources}
use Rattle.model.specs.Queries.{Line, part}
use Rattle.packet.specs.Lines.{entries_of}
use Rattle.packet.specs.Marks.{Gathering, MarksView, come, complete, partly}
use Rattle.packet.specs.Messages.{Mark, Sent, StagePacketView, none_of}
use Rattle.packet.specs.Outboxes.{packets_on}
use Rattle.packet.specs.Readers.{Reader, readers}
use Rattle.packet.specs.Truth.{IsLine, IsTrueStage, Pointwise, sent_of}
use Rattle.protocol.proofs.Runs.{line_self}
use Rattle.protocol.specs.Stages.{Done, Stage}
use Rattle.protocol.specs.StageSteps.{append_each, marker_taken, with_marker}
use Rattle.stage_steps.specs.Outboxes.{AreEdges, OutboxView}
use Rattle.stage_steps.specs.Shards.{IsPut, IsWhole, IsTo, Shard, stage_of}
use Rattle.stage_steps.specs.Told.{perhaps, told, told_if}
use Rattle.stage_steps.proofs.Goes.{for_none}
use Rattle.stage_steps.proofs.Puts.{after, no_asks, no_packets, put_after}
use Rattle.stage_steps.proofs.Truths.{turns_none}

-- what is told is true
pub marker_true : (p : Layout) (s : ℕ) (line : Line) (m : Mark) → IsLine p line → (r : Reader) → IsTrueStage (told p s line line [] [] (Some m) r)
marker_true p s line m is r = record {
  grows = line_self line;
  line = is;
  order = tt;
  turns = λ k of none. turns_none (part p s line r.view _);
  told = tt;
  piece = tt;
  alone = tt;
  marker = record { line = refl; changes = refl; evicts = refl };
}

-- to each its packet
pub each_told : (p : Layout) (s : ℕ) (line : Line) (m : Mark) (rs : List Reader) → map perhaps (map (told_if true p s line line [] [] (Some m)) rs) ≡ map (λ r. told p s line line [] [] (Some m) r ∷ []) rs
each_told p s line m [] = refl
each_told p s line m (r ∷ rs) = ap (λ l. (told p s line line [] [] (Some m) r ∷ []) ∷ l) (each_told p s line m rs)

module _ (p : Layout) (s : ℕ) (line : Line) where
  abbrev pub marks_to : List Mark → Reader → List StagePacketView
  marks_to ms r = map (λ m. told p s line line [] [] (Some m) r) ms

  marks_sent : (r : Reader) (ms : List Mark) → map sent_of (marks_to ms r) ≡ map (with_marker line) ms
  marks_sent r [] = refl
  marks_sent r (m ∷ ms) = ap (λ t. with_marker line m ∷ t) (marks_sent r ms)

  all_sent : (ms : List Mark) (rs : List Reader) → map (map sent_of) (map (marks_to ms) rs) ≡ map (λ r. map (with_marker line) ms) rs
  all_sent ms [] = refl
  all_sent ms (r ∷ rs) = λ i. marks_sent r ms i ∷ all_sent ms rs i

  to_reader : (r : Reader) (ms : List Mark) → Each (IsTo p s r) (marks_to ms r)
  to_reader r [] = tt
  to_reader r (m ∷ ms) = (record { plan = refl; stage = refl; view = refl; shard = refl }, to_reader r ms)

  all_to : (ms : List Mark) (rs : List Reader) → Pointwise (λ r xs. Each (IsTo p s r) xs) rs (map (marks_to ms) rs)
  all_to ms [] = tt
  all_to ms (r ∷ rs) = (to_reader r ms, all_to ms rs)

pub marked_whole : (x : Shard) (marks : MarksView) → IsWhole x → marks.senders ≡ x.marks.senders → IsWhole (record x { marks = marks })
marked_whole x marks whole same = record { shard = whole.shard; of = whole.of; fronts = whole.fronts; senders = same ∙ whole.senders; rows = whole.rows; pending = whole.pending }

module _ (x : Shard) (j : ℕ) (m : Mark) (marks : MarksView) (whole : IsWhole x) (d : Done) (out new : OutboxView) (put : IsPut d out x) (edges : AreEdges x.plan out) (came : marks ≡ record x.marks { waiting = partly (come x.marks.senders j m x.marks.waiting) }) where
  abbrev all : List Gathering
  all = come (length (sources x.plan)) j m x.marks.waiting

  taken_is : marker_taken (stage_of x) j m ≡ record { stage = record (stage_of x) { marks = partly all }; sent = map (λ r. map (with_marker (entries_of x.line)) (complete all)) (readers x.plan); requests = none_of (sources x.plan) }
  taken_is = ap (λ (sent : List (List Sent)). record { stage = record (stage_of x) { marks = partly all }; sent = sent; requests = none_of (sources x.plan) }) (for_none (λ asked r. map (with_marker (entries_of x.line)) (complete all)) (readers x.plan))

  pub put_marks : (ms : List Mark) → ms ≡ complete (come x.marks.senders j m x.marks.waiting) → packets_on new.packets ≡ append_each (packets_on out.packets) (map (marks_to x.plan x.shard (entries_of x.line) ms) (readers x.plan)) → new.requests ≡ out.requests
      → IsPut (after d (marker_taken d.stage j m)) new (record x { marks = marks })
  put_marks ms are told_all same =
      let e = ap (λ (s : Stage). marker_taken s j m) (sym put.stage) ∙ taken_is in
      let n = whole.senders in
      put_after d (marker_taken d.stage j m) out new x (record x { marks = marks }) put refl refl (map (marks_to x.plan x.shard (entries_of x.line) ms) (readers x.plan))
      (ap (λ (k : MarksView). record (stage_of x) { marks = k.waiting }) came ∙ (ap (λ n. record (stage_of x) { marks = partly (come n j m x.marks.waiting) }) n ∙ sym (ap (λ (e : Done). e.stage) e)))
      told_all
      (all_sent x.plan x.shard (entries_of x.line) ms (readers x.plan) ∙ (ap (λ ms. map (λ r. map (with_marker (entries_of x.line)) ms) (readers x.plan)) (are ∙ ap (λ n. complete (come n j m x.marks.waiting)) n) ∙ sym (ap (λ (e : Done). e.sent) e)))
      (all_to x.plan x.shard (entries_of x.line) ms (readers x.plan)) (ap packets_on same ∙ (sym (no_asks x.plan out edges) ∙ ap (append_each (packets_on out.requests)) (sym (ap (λ (e : Done). e.requests) e))))

  pub put_no_marks : [] ≡ complete (come x.marks.senders j m x.marks.waiting) → new ≡ out → IsPut (after d (marker_taken d.stage j m)) new (record x { marks = marks })
  put_no_marks none same = put_marks [] none (ap (λ (o : OutboxView). packets_on o.packets) same ∙ sym (no_packets x.plan out edges)) (ap (λ (o : OutboxView). o.requests) same)

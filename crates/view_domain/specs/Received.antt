-- What a view domain makes of a message.
use Rattle.std.specs.Prelude.{◌≡◌, ◌⊎◌, ◌<◌, ℕ, List, Some, Option, IfSome, length, slice_get}
use Rattle.row.specs.Bags.{Each}
use Rattle.row.specs.Cells.{datum_of}
use Rattle.row.specs.declared.refused.Refused.{Refused}
use Rattle.row.specs.declared.refused.Refused.TheVariants.{NoMemory, Gap}
use Rattle.row.specs.declared.value.Value.{Value}
use Rattle.model.specs.Fronts.{LogView}
use Rattle.model.specs.Histories.{view_shard}
use Rattle.model.specs.Queries.{Line, answer}
use Rattle.packet.specs.Codes.{marks_in}
use Rattle.packet.specs.Lines.{AreOf, entries_of}
use Rattle.packet.specs.Outboxes.{packets_on}
use Rattle.packet.specs.Truth.{Grows}
use Rattle.packet.specs.declared.mode.Mode.TheVariants as mode
use Rattle.protocol.specs.Views.{ToView, packet, want, order, Done}
use Rattle.view_domain.specs.Domains.{Domain, lines_of, view_of, stopped}
use Rattle.view_domain.specs.Outboxes.{ShownView, OutboxView, IsClear, keys_told, line_told, cut_after, asked_after}
use Rattle.view_domain.specs.Shown.{LeadsTo, rows_at}

-- each filled key of its shard has the view's rows over the cut, which has a line of the plan for each stage shard
pub record AreAnswers (d : Domain) : Type 0 where
  pub keys : (k : Value) → view_shard d.plan d.view (datum_of k) ≡ d.shard → IfSome (rows_at d.kept k) (λ rows. rows ≡ answer d.plan (lines_of d.cut) d.view (datum_of k))
  pub stages : length d.cut ≡ d.plan.stages
  pub of : Each (AreOf d.plan) d.cut

-- it runs, and the outbox is clear and has an edge to each stage shard
pub record IsReady (d : Domain) (out : OutboxView) : Type 0 where
  pub clear : IsClear out
  pub edges : length out.requests ≡ d.plan.stages
  pub running : d.mode ≡ mode.Running

-- a packet starts at the line of its stage shard
abbrev pub IsNext : Domain → ToView → Type 0
IsNext d (packet s p) = slice_get (lines_of d.cut) s ≡ Some p.from
IsNext d (want k) = Unit {0}
IsNext d (order k) = Unit {0}

-- the line is a stage shard's, and begins with the line that was held of it
pub record IsNextLine (d : Domain) (s : ℕ) (line : List LogView) : Type 0 where
  pub place : s < d.plan.stages
  pub grows : (held : Line) → slice_get (lines_of d.cut) s ≡ Some held → Grows held (entries_of line)

-- a line that is told goes on from the one that was held
abbrev pub GoesOn : Domain → ShownView → Type 0
GoesOn d x = IfSome x.line (IsNextLine d x.stage)

-- what it tells its shown copy turns what was shown of the one into what is to be shown of the other; a line that it tells goes on from the one that was held, and has a front of each source
pub record IsShown (old : Domain) (s : Option ShownView) (new : Domain) : Type 0 where
  pub keys : LeadsTo (rows_at old.kept) (keys_told s) new.kept
  pub cut : lines_of new.cut ≡ cut_after s (lines_of old.cut)
  pub line : IfSome s (GoesOn old)
  pub of : IfSome (line_told s) (AreOf old.plan)
  pub asked : new.asked ≡ asked_after s old.asked

-- all went as the definition says
pub record IsDone (m : ToView) (d : Done) (old : Domain) (out : OutboxView) (new : Domain) : Type 0 where
  pub next : IsNext old m
  pub view : view_of new ≡ d.view
  pub requests : packets_on out.requests ≡ d.requests
  pub acks : marks_in out.ack ≡ d.acks
  pub shown : IsShown old out.shown new
  pub running : new.mode ≡ mode.Running

-- a packet out of turn, and all else is as it was; or want of memory. It has stopped, and puts out nothing
pub record Fails (m : ToView) (old : Domain) (e : Refused) (out : OutboxView) (new : Domain) : Type 0 where
  pub silent : IsClear out
  pub why : ((e ≡ Gap) × (IsNext old m → ⊥) × (new ≡ stopped old)) ⊎ ((e ≡ NoMemory) × IsNext old m × (new.mode ≡ mode.Broken))

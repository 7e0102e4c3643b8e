-- The log of notes, and what is for its stage shard.
use Rattle.std.specs.Prelude.{◌≡◌, [], ◌∷◌, codes, pos}
use Rattle.row.specs.Cells.{Cells, int, text}
use Rattle.plan.specs.Recipes.{notes_plan}
use Rattle.model.specs.Fronts.{LogView}
use Rattle.model.specs.Logs.{inserts}
use Rattle.protocol.specs.Stages.{ToStage}
use Rattle.stage_domain.specs.Domains.{Domain, IsNew, Meets}

-- note 1 of author 7
abbrev pub note_row : Cells
note_row = int (pos 1) ∷ int (pos 7) ∷ text (codes "a") ∷ []

-- the log without a note, and with the note
abbrev pub no_notes : LogView
no_notes = record { plan = notes_plan; base = 0; entries = [] }

abbrev pub one_note : LogView
one_note = record no_notes { entries = inserts note_row ∷ [] }

-- any front of a log is known to be of one log with a front without entries
abbrev pub AreOne : (LogView → LogView → Type 0) → Type 0
AreOne are_one = (l m : LogView) → l.entries ≡ [] → are_one l m

-- it is the stage shard at the log without a note
abbrev pub IsFirstStage : Domain → Type 0
IsFirstStage d = IsNew notes_plan 0 (no_notes ∷ []) d

-- the message is for the stage shard at the log without a note
pub record IsForFirst (are_one : LogView → LogView → Type 0) (m : ToStage) : Type 0 where
  pub meets : (d : Domain) → IsFirstStage d → Meets are_one d m

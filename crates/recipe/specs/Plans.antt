-- The plan of a text, or the number of the refusal of the first check that fails.
use Rattle.std.specs.Prelude.{ℕ, List, ◌++◌, Option, Some, None, Result, Ok, Err}
use Rattle.toml.specs.Data.{Data, Members, table}
use Rattle.toml.specs.Parse.{parse_document}
use Rattle.plan.specs.Layouts.{Layout}
use Rattle.plan.specs.Profile.{checks, first_refusal, refusal}
use Rattle.document.specs.Checks.{document_checks}
use Rattle.recipe.specs.Drafts.{draft_said}

abbrev pub unless : {X : Type 0} → Option ℕ → X → Result X ℕ
unless None x = Ok x
unless (Some n) x = Err n

-- a draft that no check refuses
abbrev pub judged : Layout → Result Layout ℕ
judged p = unless (refusal p) p

-- what the document says, unless a check of its fields, or then of the plan, fails
unfoldable pub plan_at : Data → Result Layout ℕ
plan_at d = unless (first_refusal (document_checks d ++ checks (draft_said d))) (draft_said d)

-- before all of them: the text is a document
abbrev pub plan_in : Option Members → Result Layout ℕ
plan_in None = Err 20
plan_in (Some ms) = plan_at (table ms)

abbrev pub plan_of : List ℕ → Result Layout ℕ
plan_of text = plan_in (parse_document text)

-- What ends a run, and what is printed of it.
use Rattle.std.specs.Prelude.{ℕ, List, ◌++◌, codes}
use Rattle.std.specs.Fmt.{decimal}
use Rattle.row.specs.Refusals.{number_of, name_of}
use Rattle.row.specs.declared.refused.Refused.TheVariants as refused
use Rattle.document.specs.Errors as recipe
use Rattle.script.specs.declared.script.ScriptError.{ScriptError}
use Rattle.script.specs.declared.script.ScriptError.TheVariants as script
use Rattle.replays.specs.declared.replay.ReplayError.{ReplayError}
use Rattle.replays.specs.declared.replay.ReplayError.TheVariants as replay
use Rattle.noria.specs.declared.fault.Fault.{Fault}
use Rattle.noria.specs.declared.fault.Fault.TheVariants.{Refused, BadRecipe, BadScript}

-- the number and the name of a refusal
abbrev pub refusal : ℕ → List ℕ → List ℕ
refusal number name = ((codes "refused " ++ decimal number) ++ codes " ") ++ name

-- the refusal, and of a line of no known form its number
abbrev pub printed : Fault → List ℕ
printed (Refused why) = refusal (number_of why) (name_of why)
printed (BadRecipe error) = refusal (recipe.number_of error) (recipe.name_of error)
printed (BadScript line) =
    (refusal (number_of refused.BadScript) (name_of refused.BadScript) ++ codes " line ") ++ decimal line

-- the fault of a script that is refused
abbrev pub of_script : ScriptError → Fault
of_script script.NoMemory = Refused refused.NoMemory
of_script (script.BadScript line) = BadScript line

-- the fault of a schedule that is not run, or not to its end
abbrev pub of_replay : ReplayError → Fault
of_replay replay.NoMemory = Refused refused.NoMemory
of_replay (replay.BadScript line) = BadScript line
of_replay replay.CannotWrite = Refused refused.CannotWrite

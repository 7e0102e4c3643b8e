-- The lines of a script or a schedule, and what they ask for.
use Rattle.std.specs.Prelude.{◌≡◌, ℕ, ◌+◌, ◌==◌, Bool, not, List, [], ◌∷◌, ◌++◌, ◌⊎◌, length, Option, Some, None, if◌then◌else◌}
use Rattle.std.specs.List.{list_all}
use Rattle.row.specs.declared.refused.Refused.{Refused}
use Rattle.row.specs.declared.refused.Refused.TheVariants as refused
use Rattle.script.specs.Words.{IsLine}
use Rattle.script.specs.declared.script.Call.{Call}
use Rattle.script.specs.declared.script.ScriptError.{ScriptError}
use Rattle.script.specs.declared.script.ScriptError.TheVariants as error

-- the lines with the byte in front of the first
abbrev pub with_byte : ℕ → List (List ℕ) → List (List ℕ)
with_byte b [] = (b ∷ []) ∷ []
with_byte b (line ∷ lines) = (b ∷ line) ∷ lines

-- the lines of a text: each ends with a line feed, which the last may lack
abbrev pub lines_of : List ℕ → List (List ℕ)
lines_of [] = []
lines_of (b ∷ bs) = if b == 10 then [] ∷ lines_of bs else with_byte b (lines_of bs)

-- the lines, each with a line feed behind it
abbrev pub ended : List (List ℕ) → List ℕ
ended [] = []
ended (line ∷ lines) = line ++ (10 ∷ ended lines)

-- no byte of the line is a line feed
abbrev pub is_whole : List ℕ → Bool
is_whole line = list_all (λ b. not (b == 10)) line

-- its first byte is `#`
abbrev pub IsComment : List ℕ → Type 0
IsComment [] = ⊥
IsComment (b ∷ bs) = b ≡ 35

-- the number of a line, and what it asks for
pub record Numbered (A : Type 0) : Type 0 where
  pub line : ℕ
  pub action : A

-- the program's call as such, by what its command asks for
abbrev pub numbered : {C A : Type 0} → (C → A) → Call C → Numbered A
numbered asked call = record { line = call.line; action = asked call.command }

-- what the line with that number asks for, if it is not skipped
abbrev pub call_at : {A : Type 0} → ℕ → Option A → List (Numbered A)
call_at number None = []
call_at number (Some action) = record { line = number; action = action } ∷ []

-- a text, where words ask for things of some kind
module _ {A : Type 0} (Asks : List (List ℕ) → A → Type 0) where
  -- a line that is skipped says nothing, any other what its words ask for
  abbrev pub Says : List ℕ → Option A → Type 0
  Says line None = IsComment line ⊎ IsLine line []
  Says line (Some action) = (¬ IsComment line) × (words : List (List ℕ)) × IsLine line words × Asks words action

  -- the lines, numbered from there on, ask for these things in order
  abbrev pub IsScript : ℕ → List (List ℕ) → List (Numbered A) → Type 0
  IsScript number [] calls = calls ≡ []
  IsScript number (line ∷ lines) calls = (said : Option A) × (rest : List (Numbered A)) × Says line said × IsScript (number + 1) lines rest × (calls ≡ call_at number said ++ rest)

  -- the line is neither skipped nor asks for anything
  abbrev pub IsFault : List ℕ → Type 0
  IsFault line = (said : Option A) → ¬ Says line said

  -- the line with that number is at fault, and no line in front of it is
  abbrev pub IsFirstFault : List (List ℕ) → ℕ → Type 0
  IsFirstFault lines number = (front : List (List ℕ)) × (line : List ℕ) × (more : List (List ℕ)) × (calls : List (Numbered A)) × (lines ≡ front ++ line ∷ more) × (number ≡ length front + 1) × IsScript 1 front calls × IsFault line

  -- the lines ask for these things, and for no others
  pub record AreOnlyCalls (lines : List (List ℕ)) (calls : List (Numbered A)) : Type 0 where
    pub are : IsScript 1 lines calls
    pub only : (others : List (Numbered A)) → IsScript 1 lines others → others ≡ calls

  -- the line with that number is the first at fault, and so the lines ask for no list of things
  pub record HasFault (lines : List (List ℕ)) (number : ℕ) : Type 0 where
    pub first : IsFirstFault lines number
    pub none : (calls : List (Numbered A)) → ¬ IsScript 1 lines calls

-- the refusal that users see
abbrev pub refusal_of : ScriptError → Refused
refusal_of error.NoMemory = refused.NoMemory
refusal_of (error.BadScript line) = refused.BadScript

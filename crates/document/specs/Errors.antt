-- The numbers of refusals, their names and places as they are printed, and what a call answers.
use Rattle.std.specs.Prelude.{◌≡◌, ℕ, ◌+◌, min, List, [], ◌++◌, codes, Result, Ok, Err}
use Rattle.std.specs.Fmt.{decimal}
use Rattle.document.specs.declared.error.PlanError.{PlanError}
use Rattle.document.specs.declared.error.PlanError.TheVariants as error
use Rattle.document.specs.declared.error.Flaw.{Flaw}
use Rattle.document.specs.declared.error.Flaw.TheVariants as flaw
use Rattle.document.specs.declared.error.Part.{Part}
use Rattle.document.specs.declared.error.Part.TheVariants as part
use Rattle.document.specs.declared.error.Spot.{Spot}

abbrev pub number_at : Flaw → ℕ
number_at flaw.MissingField = 21
number_at flaw.UnknownColumn = 22
number_at flaw.TypeMismatch = 23
number_at flaw.DoublePath = 24
number_at flaw.KeyNotLeft = 25
number_at flaw.LimitExceeded = 26
number_at flaw.DuplicateName = 27

abbrev pub number_of : PlanError → ℕ
number_of error.NoMemory = 1
number_of error.NotToml = 20
number_of (error.At f s) = number_at f

abbrev pub name_at : Flaw → List ℕ
name_at flaw.MissingField = codes "MissingField"
name_at flaw.UnknownColumn = codes "UnknownColumn"
name_at flaw.TypeMismatch = codes "TypeMismatch"
name_at flaw.DoublePath = codes "DoublePath"
name_at flaw.KeyNotLeft = codes "KeyNotLeft"
name_at flaw.LimitExceeded = codes "LimitExceeded"
name_at flaw.DuplicateName = codes "DuplicateName"

abbrev pub name_of : PlanError → List ℕ
name_of error.NoMemory = codes "NoMemory"
name_of error.NotToml = codes "NotToml"
name_of (error.At f s) = name_at f

-- what is said of a flaw behind its place
abbrev pub printed_flaw : Flaw → List ℕ
printed_flaw flaw.MissingField = codes ", which is missing"
printed_flaw flaw.UnknownColumn = codes ", and there is none such"
printed_flaw flaw.TypeMismatch = []
printed_flaw flaw.DoublePath = []
printed_flaw flaw.KeyNotLeft = []
printed_flaw flaw.LimitExceeded = []
printed_flaw flaw.DuplicateName = []

-- a position as it is printed: counted from 1, at most the greatest number of 64 bits
abbrev pub from_one : ℕ → List ℕ
from_one at = decimal (min (at + 1) 18446744073709551615)

-- a part by its name, and by its number where there may be more than one of its kind
abbrev pub printed_part : Part → List ℕ
printed_part part.Recipe = codes "the recipe"
printed_part (part.Table at) = codes "table " ++ from_one at
printed_part part.Stage = codes "the stage"
printed_part (part.LeftCondition at) = codes "the stage, left condition " ++ from_one at
printed_part (part.RightCondition at) = codes "the stage, right condition " ++ from_one at
printed_part (part.View at) = codes "view " ++ from_one at

-- the part, the field, and what is expected there
abbrev pub printed_spot : Spot → List ℕ
printed_spot spot = printed_part spot.part
    ++ (codes ", `" ++ (spot.field.now ++ (codes "`: expected " ++ spot.expected.now)))

-- what a call gives, seen by view, is what the definition gives, unless memory ran out
abbrev pub Fails : {Y : Type 0} → PlanError → Result Y ℕ → Type 0
Fails error.NoMemory read = Unit {0}
Fails error.NotToml read = read ≡ Err 20
Fails (error.At f s) read = read ≡ Err (number_at f)

abbrev pub Gives : {X Y : Type 0} → (X → Y) → Result X PlanError → Result Y ℕ → Type 0
Gives view (Ok x) read = read ≡ Ok (view x)
Gives view (Err e) read = Fails e read

-- What a step on a word finds.
use Rattle.std.specs.Prelude.{Result, Ok, Err}
use Rattle.std.specs.declared.alloc.AllocError.{AllocError}
use Rattle.model.specs.declared.fronts.Found.{Found}
use Rattle.model.specs.declared.fronts.Found.TheVariants.{Here, Moved}

-- P where the word stood at the front
abbrev pub OnHere : {F : Type 0} → Result (Found F) AllocError → Type 0 → Type 0
OnHere (Ok Here) P = P
OnHere (Ok (Moved f)) P = Unit {0}
OnHere (Err e) P = Unit {0}

-- P where it did not, or memory was refused
abbrev pub OnStay : {F : Type 0} → Result (Found F) AllocError → Type 0 → Type 0
OnStay (Ok Here) P = Unit {0}
OnStay (Ok (Moved f)) P = P
OnStay (Err e) P = P

-- P of the longer front that was seen
abbrev pub IfMoved : {F : Type 0} → Result (Found F) AllocError → (F → Type 0) → Type 0
IfMoved (Ok Here) P = Unit {0}
IfMoved (Ok (Moved f)) P = P f
IfMoved (Err e) P = Unit {0}

-- The reader of words as a machine over lists. No public clause cites it.
use Rattle.std.specs.Prelude.{ℕ, Bool, not, ◌&&◌, ◌||◌, ◌==◌, cond, List, [], ◌∷◌, ◌++◌, Option, Some, None, map, string_bytes}
use Rattle.std.specs.Cow.{cow_str_bytes}
use Rattle.row.specs.Printed.{is_escaped}
use Rattle.plan.specs.Kinds.{is_printed}
use Rattle.script.specs.declared.words.Place.{Place}
use Rattle.script.specs.declared.words.Place.TheVariants.{Between, Bare, Quoted, Escaped, Closed}
use Rattle.script.specs.declared.words.ByteClass.{ByteClass}
use Rattle.script.specs.declared.words.ByteClass.TheVariants.{Space, Mark, Backslash, Plain, Other}
use Rattle.script.specs.declared.words.Step.{Step}
use Rattle.script.specs.declared.words.Step.TheVariants.{Go, Keep, End, Fault}
use Rattle.script.specs.declared.words.Reader.{Reader}

-- what a byte may be in a line
abbrev pub class_of : ℕ → ByteClass
class_of b = cond (b == 32) Space (cond (b == 34) Mark (cond (b == 92) Backslash (cond (is_printed b) Plain Other)))

-- whether a byte is plain
abbrev pub is_plain : ℕ → Bool
is_plain b = is_printed b && not (b == 32 || is_escaped b)

-- what a byte of the class does at the place
abbrev pub step_at : Place → ByteClass → Step
step_at Between Space = Go Between
step_at Between Mark = Go Quoted
step_at Between Plain = Keep Bare
step_at Between _ = Fault
step_at Bare Space = End Between
step_at Bare Plain = Keep Bare
step_at Bare _ = Fault
step_at Quoted Mark = End Closed
step_at Quoted Backslash = Go Escaped
step_at Quoted Other = Fault
step_at Quoted _ = Keep Quoted
step_at Escaped Mark = Keep Quoted
step_at Escaped Backslash = Keep Quoted
step_at Escaped _ = Fault
step_at Closed Space = Go Between
step_at Closed _ = Fault

-- with words in front, if there are words
abbrev pub front : List (List ℕ) → Option (List (List ℕ)) → Option (List (List ℕ))
front ws None = None
front ws (Some vs) = Some (ws ++ vs)

-- what a step and then more give
abbrev pub follow : Step → ℕ → List ℕ → (Place → List ℕ → Option (List (List ℕ))) → Option (List (List ℕ))
follow (Go p) b word more = more p word
follow (Keep p) b word more = more p (word ++ b ∷ [])
follow (End p) b word more = front (word ∷ []) (more p [])
follow Fault b word more = None

-- the words that the place adds at the end of a line
abbrev pub ending : Place → List ℕ → Option (List (List ℕ))
ending Between word = Some []
ending Bare word = Some (word ∷ [])
ending Quoted word = None
ending Escaped word = None
ending Closed word = Some []

-- the words that the bytes add, from the place on, with the front of a word
abbrev pub scan : List ℕ → Place → List ℕ → Option (List (List ℕ))
scan [] p word = ending p word
scan (b ∷ bs) p word = follow (step_at p (class_of b)) b word (scan bs)

-- the words that a reader gives once it has read the bytes
abbrev pub gives : Reader → List ℕ → Option (List (List ℕ))
gives r bs = front (map cow_str_bytes r.words.items) (scan bs r.place (string_bytes r.word))

-- What is kept at a key, and what each call makes of it.
use Rattle.std.specs.Prelude.{◌≡◌, ℕ, Bool, true, false, ◌&&◌, List, [], ◌∷◌, ◌++◌, Option, Some, None, IsSome, is_some, slice_set, slice_get, replicate, if◌then◌else◌}
use Rattle.std.specs.List.{list_all}
use Rattle.std.specs.Option.{option_map}
use Rattle.std.specs.Map.{lookup, keys_of}
use Rattle.partial.specs.declared.partial.Evicted.{Evicted}
use Rattle.partial.specs.declared.partial.Evicted.TheVariants as said

-- a hole, a gather with a place for each source and the pieces in hand, or a filled entry
pub data State (E : Type 0) : Type 0 where
  Hole : State E
  Waiting : (pieces : List (Option E)) → State E
  Filled : (entry : E) → State E

-- how many sources there are, the filled entries in the order of filling, and the gathers
pub record Kept (K E : Type 0) : Type 0 where
  pub sources : ℕ
  pub filled : List (K × E)
  pub waiting : List (K × List (Option E))

abbrev pub state_from : {E : Type 0} → Option (List (Option E)) → Option E → State E
state_from (Some pieces) filled = Waiting pieces
state_from None (Some entry) = Filled entry
state_from None None = Hole

-- what is kept at the key
abbrev pub state_of : {K E : Type 0} → (K → K → Bool) → Kept K E → K → State E
state_of eq kept key = state_from (lookup (eq key) kept.waiting) (lookup (eq key) kept.filled)

-- no key is both filled and waiting
abbrev pub IsApart : {K E : Type 0} → (K → K → Bool) → Kept K E → Type 0
IsApart {K} eq kept = (key : K) → IsSome (lookup (eq key) kept.filled) → lookup (eq key) kept.waiting ≡ None

-- the filled keys, from the one that was filled first
abbrev pub order_of : {K E : Type 0} → Kept K E → List K
order_of kept = keys_of kept.filled

-- each other key has what it had
abbrev pub OthersStay : {K E : Type 0} → (K → K → Bool) → K → Kept K E → Kept K E → Type 0
OthersStay {K} eq key old new = (other : K) → eq key other ≡ false → state_of eq new other ≡ state_of eq old other

-- the key, under an equal one, stands behind all the keys that were there
abbrev pub GoesLast : {K : Type 0} → (K → K → Bool) → K → List K → List K → Type 0
GoesLast {K} eq key old new = (stored : K) × (eq key stored ≡ true) × (new ≡ old ++ stored ∷ [])

abbrev pub is_hole : {E : Type 0} → State E → Bool
is_hole Hole = true
is_hole (Waiting pieces) = false
is_hole (Filled entry) = false

abbrev pub is_waiting : {E : Type 0} → State E → Bool
is_waiting Hole = false
is_waiting (Waiting pieces) = true
is_waiting (Filled entry) = false

abbrev pub is_filled : {E : Type 0} → State E → Bool
is_filled Hole = false
is_filled (Waiting pieces) = false
is_filled (Filled entry) = true

-- the entry, if there is one
abbrev pub entry_of : {E : Type 0} → State E → Option E
entry_of Hole = None
entry_of (Waiting pieces) = None
entry_of (Filled entry) = Some entry

-- a source has its place, and no piece in it yet
abbrev pub is_missing : {E : Type 0} → Option (Option E) → Bool
is_missing None = false
is_missing (Some None) = true
is_missing (Some (Some p)) = false

-- a source has its place, and its piece in it
abbrev pub is_here : {E : Type 0} → Option (Option E) → Bool
is_here None = false
is_here (Some None) = false
is_here (Some (Some p)) = true

-- the piece of each source is here
abbrev pub is_whole : {E : Type 0} → List (Option E) → Bool
is_whole pieces = list_all is_some pieces

-- the pieces that are here
abbrev pub somes : {E : Type 0} → List (Option E) → List E
somes [] = []
somes (None ∷ rest) = somes rest
somes (Some p ∷ rest) = p ∷ somes rest

-- what is found at a key, changed by f if it is the one that is meant
abbrev pub changed_at : {E : Type 0} → (E → E) → Bool → Option E → Option E
changed_at f is found = if is then option_map f found else found

-- a hole begins to wait for a piece of each of n sources
abbrev pub begun : {E : Type 0} → ℕ → State E → State E
begun n Hole = Waiting (replicate n None)
begun n (Waiting pieces) = Waiting pieces
begun n (Filled entry) = Filled entry

-- the pieces with that of the source, where it is missing
abbrev pub given : {E : Type 0} → ℕ → E → List (Option E) → List (Option E)
given source piece pieces = if is_missing (slice_get pieces source) then slice_set pieces source (Some piece) else pieces

-- the piece of the source is missing, and it alone
abbrev pub completes : {E : Type 0} → ℕ → E → List (Option E) → Bool
completes source piece pieces = is_missing (slice_get pieces source) && is_whole (given source piece pieces)

-- a key waits for the piece of the source alone
abbrev pub fills : {E : Type 0} → ℕ → E → State E → Bool
fills source piece Hole = false
fills source piece (Waiting pieces) = completes source piece pieces
fills source piece (Filled entry) = false

-- a filled key becomes a hole; of a gather the piece of the source is dropped, if one is named
abbrev pub evicted : {E : Type 0} → Option ℕ → State E → State E
evicted source Hole = Hole
evicted None (Waiting pieces) = Waiting pieces
evicted (Some source) (Waiting pieces) = Waiting (slice_set pieces source None)
evicted source (Filled entry) = Hole

-- what an eviction says that it did
abbrev pub says_evicted : {E : Type 0} → Option ℕ → State E → Evicted
says_evicted source Hole = said.Nothing
says_evicted None (Waiting pieces) = said.Nothing
says_evicted (Some source) (Waiting pieces) = if is_here (slice_get pieces source) then said.Piece else said.Nothing
says_evicted source (Filled entry) = said.Entry

module _ {E : Type 0} (total : List E → E) where
  -- the source's piece goes into the gather; with the last one the key is filled with their sum
  abbrev pub after_piece : ℕ → E → State E → State E
  after_piece source piece Hole = Hole
  after_piece source piece (Waiting pieces) = if completes source piece pieces then Filled (total (somes (given source piece pieces))) else Waiting (given source piece pieces)
  after_piece source piece (Filled entry) = Filled entry

module _ {E C : Type 0} (plus : E → C → E) where
  -- the pieces with the change at the source's piece, where it is here
  abbrev pub piece_changed : C → ℕ → List (Option E) → Option (Option E) → List (Option E)
  piece_changed change source pieces None = pieces
  piece_changed change source pieces (Some place) = slice_set pieces source (option_map (λ p. plus p change) place)

  -- a filled entry takes the change; of a gather the source's piece, where it is here; a hole drops it
  abbrev pub after_change : ℕ → C → State E → State E
  after_change source change Hole = Hole
  after_change source change (Waiting pieces) = Waiting (piece_changed change source pieces (slice_get pieces source))
  after_change source change (Filled entry) = Filled (plus entry change)

module _ {E C : Type 0} (fits : E → C → Type 0) where
  abbrev pub PieceFits : C → Option (Option E) → Type 0
  PieceFits change None = Unit {0}
  PieceFits change (Some None) = Unit {0}
  PieceFits change (Some (Some p)) = fits p change

  -- the change fits what it is to be applied to
  abbrev pub ChangeFits : ℕ → C → State E → Type 0
  ChangeFits source change Hole = Unit {0}
  ChangeFits source change (Waiting pieces) = PieceFits change (slice_get pieces source)
  ChangeFits source change (Filled entry) = fits entry change

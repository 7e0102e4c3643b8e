-- What the words of a command ask for is determined.
use Rattle.std.proofs.Common.{◌≡◌, ◌==◌, cond, ℕ, List, [], ◌∷◌, ap, sym, ◌∙◌, arith}
use Rattle.script.specs.Commands.{Action, insert, update, delete, fence, try, read, closing, evict_stage, evict_view, count, Asks}
use Rattle.script.proofs.Reading.{IsApart}

-- no words ask for nothing
asks_some : (action : Action) → Asks [] action → ⊥
asks_some (insert table cells) a = let h = a.0 in cc
asks_some (update table cells) a = let h = a.0 in cc
asks_some (delete table key) a = cc a
asks_some fence a = cc a
asks_some (try view key) a = cc a
asks_some (read view key) a = cc a
asks_some (closing view key) a = cc a
asks_some (evict_stage key) a = cc a
asks_some (evict_view view key) a = cc a
asks_some (count view) a = cc a

-- names of commands have first bytes of their own
abbrev first_byte : List ℕ → ℕ
first_byte [] = 0
first_byte (b ∷ bs) = b

abbrev evicted : List ℕ → List (List ℕ) → Action
evicted key [] = evict_stage key
evicted view (key ∷ ys) = evict_view view key

abbrev named : ℕ → (x y : List ℕ) → (ys : List (List ℕ)) → Action
named b x y ys = cond (b == 105) (insert x (y ∷ ys)) (cond (b == 117) (update x (y ∷ ys)) (cond (b == 100) (delete x y) (cond (b == 116) (try x y) (cond (b == 114) (read x y) (cond (b == 99) (closing x y) (evicted y ys))))))

-- the action that words of some form ask for
abbrev asked : List (List ℕ) → Action
asked [] = fence
asked (name ∷ []) = fence
asked (name ∷ x ∷ []) = count x
asked (name ∷ x ∷ y ∷ ys) = named (first_byte name) x y ys

asks_asked : (words : List (List ℕ)) (a : Action) → Asks words a → asked words ≡ a
asks_asked words (insert table []) is = absurd (omega (arith, is.1))
asks_asked words (insert table (cell ∷ cells)) is = ap asked is.0
asks_asked words (update table []) is = absurd (omega (arith, is.1))
asks_asked words (update table (cell ∷ cells)) is = ap asked is.0
asks_asked words (delete table key) is = ap asked is
asks_asked words fence is = ap asked is
asks_asked words (try view key) is = ap asked is
asks_asked words (read view key) is = ap asked is
asks_asked words (closing view key) is = ap asked is
asks_asked words (evict_stage key) is = ap asked is
asks_asked words (evict_view view key) is = ap asked is
asks_asked words (count view) is = ap asked is

-- the same words ask for one action
pub asks_once : (words : List (List ℕ)) (a b : Action) → Asks words a → Asks words b → a ≡ b
asks_once words a b is too = sym (asks_asked words a is) ∙ asks_asked words b too

-- no words ask for two commands, and none for one
pub commands : IsApart Asks
commands = record { once = asks_once; some = asks_some }

-- What the words of a line ask for.
use Rattle.std.specs.Prelude.{◌≡◌, ℕ, ◌<◌, List, [], ◌∷◌, length, map, codes}
use Rattle.std.specs.Cow.{cow_str_bytes}
use Rattle.script.specs.declared.command.Command.{Command}
use Rattle.script.specs.declared.command.Command.TheVariants as code

-- a command: a row, cell by cell, for the table, new or in place of that of its key; a key of the
-- table whose row goes; a fence; rows of a view by their key, where they are shown, at this place, or
-- at the end; a stage key, or a key of a view, that its shard forgets; or how many requests a view
-- has sent
pub data Action : Type 0 where
  insert : (table : List ℕ) (cells : List (List ℕ)) → Action
  update : (table : List ℕ) (cells : List (List ℕ)) → Action
  delete : (table key : List ℕ) → Action
  fence : Action
  try : (view key : List ℕ) → Action
  read : (view key : List ℕ) → Action
  closing : (view key : List ℕ) → Action
  evict_stage : (key : List ℕ) → Action
  evict_view : (view key : List ℕ) → Action
  count : (view : List ℕ) → Action

-- the program's command as such
abbrev pub action_of : Command → Action
action_of (code.Insert table cells) = insert (cow_str_bytes table) (map cow_str_bytes cells.items)
action_of (code.Update table cells) = update (cow_str_bytes table) (map cow_str_bytes cells.items)
action_of (code.Delete table key) = delete (cow_str_bytes table) (cow_str_bytes key)
action_of code.Fence = fence
action_of (code.Try view key) = try (cow_str_bytes view) (cow_str_bytes key)
action_of (code.Read view key) = read (cow_str_bytes view) (cow_str_bytes key)
action_of (code.Closing view key) = closing (cow_str_bytes view) (cow_str_bytes key)
action_of (code.EvictStage key) = evict_stage (cow_str_bytes key)
action_of (code.EvictView view key) = evict_view (cow_str_bytes view) (cow_str_bytes key)
action_of (code.Count view) = count (cow_str_bytes view)

-- the forms of commands, each after its name: `insert TABLE CELL..`, `update TABLE CELL..`,
-- `delete TABLE KEY`, `fence`, `try VIEW KEY`, `read VIEW KEY`, `closing VIEW KEY`,
-- `evict stage KEY`, `evict view VIEW KEY`, `count VIEW`
abbrev pub Asks : List (List ℕ) → Action → Type 0
Asks words (insert table cells) = (words ≡ codes "insert" ∷ table ∷ cells) × (0 < length cells)
Asks words (update table cells) = (words ≡ codes "update" ∷ table ∷ cells) × (0 < length cells)
Asks words (delete table key) = words ≡ codes "delete" ∷ table ∷ key ∷ []
Asks words fence = words ≡ codes "fence" ∷ []
Asks words (try view key) = words ≡ codes "try" ∷ view ∷ key ∷ []
Asks words (read view key) = words ≡ codes "read" ∷ view ∷ key ∷ []
Asks words (closing view key) = words ≡ codes "closing" ∷ view ∷ key ∷ []
Asks words (evict_stage key) = words ≡ codes "evict" ∷ codes "stage" ∷ key ∷ []
Asks words (evict_view view key) = words ≡ codes "evict" ∷ codes "view" ∷ view ∷ key ∷ []
Asks words (count view) = words ≡ codes "count" ∷ view ∷ []

-- What the words of a line of a schedule ask for.
use Rattle.std.specs.Prelude.{◌≡◌, ℕ, ◌<◌, List, [], ◌∷◌, ◌⊎◌, map, codes}
use Rattle.std.specs.Fmt.{decimal}
use Rattle.std.specs.Cow.{cow_str_bytes}
use Rattle.script.specs.Commands as script
use Rattle.schedule_lines.specs.declared.event_line.EntryWords.{EntryWords}
use Rattle.schedule_lines.specs.declared.event_line.EntryWords.TheVariants as entry
use Rattle.schedule_lines.specs.declared.event_line.CallWords.{CallWords}
use Rattle.schedule_lines.specs.declared.event_line.CallWords.TheVariants as call
use Rattle.schedule_lines.specs.declared.event_line.EventLine.{EventLine}
use Rattle.schedule_lines.specs.declared.event_line.EventLine.TheVariants as code

-- a call of a session, the delivery of an edge's first message, an order to evict a stage key or a key of a view, a stop of a domain, or
-- deliveries until all edges are empty
pub data Ask : Type 0 where
  insert : (session : ℕ) (table : List ℕ) (cells : List (List ℕ)) → Ask
  update : (session : ℕ) (table : List ℕ) (cells : List (List ℕ)) → Ask
  delete : (session : ℕ) (table key : List ℕ) → Ask
  try : (session : ℕ) (view key : List ℕ) → Ask
  want : (session : ℕ) (view key : List ℕ) → Ask
  fence : (session : ℕ) → Ask
  count : (session : ℕ) (view : List ℕ) → Ask
  deliver : (edge : List ℕ) → Ask
  evict_stage : (key : List ℕ) → Ask
  evict_view : (view key : List ℕ) → Ask
  stop : (domain : List ℕ) → Ask
  settle : Ask

-- the program's words as a write of the session to the table
abbrev pub write_of : ℕ → List ℕ → EntryWords → Ask
write_of session table (entry.Insert cells) = insert session table (map cow_str_bytes cells.items)
write_of session table (entry.Update cells) = update session table (map cow_str_bytes cells.items)
write_of session table (entry.Delete key) = delete session table (cow_str_bytes key)

-- and as a call of the session
abbrev pub called_by : ℕ → CallWords → Ask
called_by session (call.Write table words) = write_of session (cow_str_bytes table) words
called_by session (call.Try view key) = try session (cow_str_bytes view) (cow_str_bytes key)
called_by session (call.Want view key) = want session (cow_str_bytes view) (cow_str_bytes key)
called_by session call.Fence = fence session
called_by session (call.Count view) = count session (cow_str_bytes view)

-- the program's line as such
abbrev pub ask_of : EventLine → Ask
ask_of (code.Call session words) = called_by session words
ask_of (code.Deliver edge) = deliver (cow_str_bytes edge)
ask_of (code.EvictStage key) = evict_stage (cow_str_bytes key)
ask_of (code.EvictView view key) = evict_view (cow_str_bytes view) (cow_str_bytes key)
ask_of (code.Stop domain) = stop (cow_str_bytes domain)
ask_of code.Settle = settle

-- the numbers that a schedule may give a session are below it
abbrev pub session_limit : ℕ
session_limit = 4294967296

-- the word is the number of a session by its decimal digits
abbrev pub IsSession : List ℕ → ℕ → Type 0
IsSession word n = (n < session_limit) × (decimal n ≡ word)

-- the words behind the number of session n: those of a script's insert, update, delete, try, fence or count, or `want VIEW KEY`
abbrev pub Calls : ℕ → List (List ℕ) → Ask → Type 0
Calls n words (insert session table cells) = (session ≡ n) × script.Asks words (script.insert table cells)
Calls n words (update session table cells) = (session ≡ n) × script.Asks words (script.update table cells)
Calls n words (delete session table key) = (session ≡ n) × script.Asks words (script.delete table key)
Calls n words (try session view key) = (session ≡ n) × script.Asks words (script.try view key)
Calls n words (want session view key) = (session ≡ n) × (words ≡ codes "want" ∷ view ∷ key ∷ [])
Calls n words (fence session) = (session ≡ n) × script.Asks words script.fence
Calls n words (count session view) = (session ≡ n) × script.Asks words (script.count view)
Calls n words other = ⊥

-- the words are the number of a session, and then a call of it
abbrev pub IsCall : List (List ℕ) → Ask → Type 0
IsCall [] ask = ⊥
IsCall (word ∷ words) ask = (n : ℕ) × IsSession word n × Calls n words ask

-- the words are `deliver EDGE`, `stop DOMAIN`, `settle`, or a script's `evict stage KEY` or `evict view VIEW KEY`
abbrev pub IsOrder : List (List ℕ) → Ask → Type 0
IsOrder words (deliver edge) = words ≡ codes "deliver" ∷ edge ∷ []
IsOrder words (evict_stage key) = script.Asks words (script.evict_stage key)
IsOrder words (evict_view view key) = script.Asks words (script.evict_view view key)
IsOrder words (stop domain) = words ≡ codes "stop" ∷ domain ∷ []
IsOrder words settle = words ≡ codes "settle" ∷ []
IsOrder words other = ⊥

-- the forms of lines
abbrev pub Asks : List (List ℕ) → Ask → Type 0
Asks words ask = IsCall words ask ⊎ IsOrder words ask

-- the first word is `want`
abbrev pub IsWant : List (List ℕ) → Type 0
IsWant [] = ⊥
IsWant (word ∷ words) = word ≡ codes "want"

-- The events that lines ask for are determined.
use Rattle.std.proofs.Common.{◌≡◌, ℕ, List, [], ◌∷◌, ◌++◌, refl, ap, sym, subst, ◌∙◌}
use Rattle.row.specs.Cells.{Datum, Cells}
use Rattle.plan.specs.Layouts.{Layout, table_named}
use Rattle.plan.specs.declared.kinds.Kind.{Kind}
use Rattle.model.specs.Logs.{inserts, deletes, updates}
use Rattle.protocol.specs.Events.{Event, write, try_read, want, evict_stage, evict_view}
use Rattle.script.specs.Columns.{IsRow, kind_of_column, kind_of_key, kind_of_stage_key, kind_of_table}
use Rattle.script.specs.Scripts.{lines_of, Numbered}
use Rattle.script.specs.Values.{IsRead}
use Rattle.script.proofs.Cells.{cells_once}
use Rattle.script.proofs.Numbers.{read_once}
use Rattle.script.proofs.Reading.{script_once}
use Rattle.schedule_lines.specs.Asks as ask
use Rattle.schedule_lines.specs.Asks.{Ask, Asks}
use Rattle.schedule_lines.specs.Events.{IsEvent, AreEvents, IsSchedule}
use Rattle.schedule_lines.proofs.Asking.{events}

row_once : (p : Layout) (table : List ℕ) (words : List (List ℕ)) (a b : Cells) → IsRow p table words a → IsRow p table words b → a ≡ b
row_once p table words a b x y = cells_once (kind_of_column p (table_named p table)) 0 words a b x y

-- a key is read in one way
keyed : (k : Kind) (word : List ℕ) (f : Datum → Event) (m n : Datum) (a b : Event) → IsRead k word m → IsRead k word n → a ≡ f m → b ≡ f n → a ≡ b
keyed k word f m n a b x y u v = u ∙ (ap f (read_once k word m n x y) ∙ sym v)

-- a line is one event
pub event_once : (p : Layout) (line : Ask) (a b : Event) → IsEvent p line a → IsEvent p line b → a ≡ b
event_once p (ask.insert s table words) a b x y = x.2 ∙ (ap (λ r. write s table (inserts r)) (row_once p table words x.0 y.0 x.1 y.1) ∙ sym y.2)
event_once p (ask.update s table words) a b x y = x.2 ∙ (ap (λ r. write s table (updates r)) (row_once p table words x.0 y.0 x.1 y.1) ∙ sym y.2)
event_once p (ask.delete s table word) a b x y = keyed (kind_of_table p table) word (λ k. write s table (deletes k)) x.0 y.0 a b x.1 y.1 x.2 y.2
event_once p (ask.try s view word) a b x y = keyed (kind_of_key p view) word (λ k. try_read s view k) x.0 y.0 a b x.1 y.1 x.2 y.2
event_once p (ask.want s view word) a b x y = keyed (kind_of_key p view) word (λ k. want s view k) x.0 y.0 a b x.1 y.1 x.2 y.2
event_once p (ask.fence s) a b x y = x ∙ sym y
event_once p (ask.count s view) a b x y = x ∙ sym y
event_once p (ask.deliver text) a b x y = x ∙ sym y
event_once p (ask.evict_stage word) a b x y = keyed (kind_of_stage_key p) word evict_stage x.0 y.0 a b x.1 y.1 x.2 y.2
event_once p (ask.evict_view view word) a b x y = keyed (kind_of_key p view) word (λ k. evict_view view k) x.0 y.0 a b x.1 y.1 x.2 y.2
event_once p (ask.stop text) a b x y = x ∙ sym y
event_once p ask.settle a b x y = x ∙ sym y

-- lines are one list of events
pub events_once : (p : Layout) (lines : List (Numbered Ask)) (a b : List Event) → AreEvents p lines a → AreEvents p lines b → a ≡ b
events_once p [] a b x y = x ∙ sym y
events_once p (line ∷ lines) a b x y =
    let first : x.0 ≡ y.0 = event_once p line.action x.0 y.0 x.2 y.2 in
    let rest : x.1 ≡ y.1 = events_once p lines x.1 y.1 x.3 y.3 in
    x.4 ∙ (ap (λ e. e ∷ x.1) first ∙ (ap (λ es. y.0 ∷ es) rest ∙ sym y.4))

-- one line more
pub events_more : (p : Layout) (lines : List (Numbered Ask)) (events : List Event) (line : Numbered Ask) (event : Event) → AreEvents p lines events → IsEvent p line.action event → AreEvents p (lines ++ line ∷ []) (events ++ event ∷ [])
events_more p [] es line event are is = (event, [], is, refl, ap (λ xs. xs ++ event ∷ []) are)
events_more p (l ∷ ls) es line event are is = (are.0, are.1 ++ event ∷ [], are.2, events_more p ls are.1 line event are.3 is, ap (λ xs. xs ++ event ∷ []) are.4)

-- a text is one schedule
pub schedule_once : (p : Layout) (text : List ℕ) (a b : List Event) → IsSchedule p text a → IsSchedule p text b → a ≡ b
schedule_once p text a b x y =
    let same : x.0 ≡ y.0 = script_once Asks events (lines_of text) 1 x.0 y.0 x.1 y.1 in
    events_once p y.0 a b (subst (λ ls. AreEvents p ls a) same x.2) y.2

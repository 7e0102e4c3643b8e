-- The events that lines ask for over a plan.
use Rattle.std.specs.Prelude.{◌≡◌, ℕ, List, [], ◌∷◌}
use Rattle.row.specs.Cells.{Datum, Cells}
use Rattle.plan.specs.Layouts.{Layout}
use Rattle.plan.specs.Domains.{domain_named, edge_named}
use Rattle.model.specs.Logs.{inserts, deletes, updates}
use Rattle.protocol.specs.Events.{Event, write, try_read, want, fence, count, deliver, evict_stage, evict_view, stop, settle}
use Rattle.script.specs.Columns.{IsRow, kind_of_key, kind_of_stage_key, kind_of_table}
use Rattle.script.specs.Scripts.{lines_of, Numbered, IsScript}
use Rattle.script.specs.Values.{IsRead}
use Rattle.schedule_lines.specs.Asks as ask
use Rattle.schedule_lines.specs.Asks.{Ask, Asks}

-- cells and keys are read by their columns; an edge or a domain is the plan's of that text, if it has one
abbrev pub IsEvent : Layout → Ask → Event → Type 0
IsEvent p (ask.insert session table words) e = (row : Cells) × IsRow p table words row × (e ≡ write session table (inserts row))
IsEvent p (ask.update session table words) e = (row : Cells) × IsRow p table words row × (e ≡ write session table (updates row))
IsEvent p (ask.delete session table word) e = (key : Datum) × IsRead (kind_of_table p table) word key × (e ≡ write session table (deletes key))
IsEvent p (ask.try session view word) e = (key : Datum) × IsRead (kind_of_key p view) word key × (e ≡ try_read session view key)
IsEvent p (ask.want session view word) e = (key : Datum) × IsRead (kind_of_key p view) word key × (e ≡ want session view key)
IsEvent p (ask.fence session) e = e ≡ fence session
IsEvent p (ask.count session view) e = e ≡ count session view
IsEvent p (ask.deliver text) e = e ≡ deliver (edge_named p text)
IsEvent p (ask.evict_stage word) e = (key : Datum) × IsRead (kind_of_stage_key p) word key × (e ≡ evict_stage key)
IsEvent p (ask.evict_view view word) e = (key : Datum) × IsRead (kind_of_key p view) word key × (e ≡ evict_view view key)
IsEvent p (ask.stop text) e = e ≡ stop (domain_named p text)
IsEvent p ask.settle e = e ≡ settle

-- line by line
abbrev pub AreEvents : Layout → List (Numbered Ask) → List Event → Type 0
AreEvents p [] events = events ≡ []
AreEvents p (line ∷ lines) events = (e : Event) × (rest : List Event) × IsEvent p line.action e × AreEvents p lines rest × (events ≡ e ∷ rest)

-- the text is a schedule of these events
abbrev pub IsSchedule : Layout → List ℕ → List Event → Type 0
IsSchedule p text events = (lines : List (Numbered Ask)) × IsScript Asks 1 (lines_of text) lines × AreEvents p lines events

-- The lines of a schedule.
use Rattle.script.specs.Scripts as scripts
use Rattle.script.specs.Scripts.{Numbered}
use Rattle.script.specs.declared.script.Call.{Call}
use Rattle.schedule_lines.specs.Asks.{Ask, ask_of}
use Rattle.schedule_lines.specs.declared.event_line.EventLine.{EventLine}

-- the program's line as its number and what it asks for
abbrev pub numbered : Call EventLine → Numbered Ask
numbered line = scripts.numbered ask_of line

-- The numbers and names of the refusals.
use Rattle.std.specs.Prelude.{ℕ, List, codes}
use Rattle.row.specs.declared.refused.Refused.{Refused}
use Rattle.row.specs.declared.refused.Refused.TheVariants.{NoMemory, UnknownTable, BadRow, Duplicate, Absent, LogFull, UnknownView, BadKey, Busy, Stopped, Stolen, NoSessionLeft, Behind, Gap, UnknownPlace, BadScript, CannotRead, CannotWrite}

-- the number that users see
abbrev pub number_of : Refused → ℕ
number_of NoMemory = 1
number_of UnknownTable = 2
number_of BadRow = 3
number_of Duplicate = 4
number_of Absent = 5
number_of LogFull = 6
number_of UnknownView = 7
number_of BadKey = 8
number_of Busy = 9
number_of Stopped = 10
number_of Stolen = 11
number_of NoSessionLeft = 12
number_of Behind = 13
number_of Gap = 14
number_of UnknownPlace = 15
number_of BadScript = 30
number_of CannotRead = 31
number_of CannotWrite = 32

-- the name that users see
abbrev pub name_of : Refused → List ℕ
name_of NoMemory = codes "NoMemory"
name_of UnknownTable = codes "UnknownTable"
name_of BadRow = codes "BadRow"
name_of Duplicate = codes "Duplicate"
name_of Absent = codes "Absent"
name_of LogFull = codes "LogFull"
name_of UnknownView = codes "UnknownView"
name_of BadKey = codes "BadKey"
name_of Busy = codes "Busy"
name_of Stopped = codes "Stopped"
name_of Stolen = codes "Stolen"
name_of NoSessionLeft = codes "NoSessionLeft"
name_of Behind = codes "Behind"
name_of Gap = codes "Gap"
name_of UnknownPlace = codes "UnknownPlace"
name_of BadScript = codes "BadScript"
name_of CannotRead = codes "CannotRead"
name_of CannotWrite = codes "CannotWrite"

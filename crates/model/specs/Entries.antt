-- The program's entries as those of the definitions.
use Rattle.row.specs.Cells.{datum_of}
use Rattle.model.specs.Logs.{Change, inserts, deletes, updates}
use Rattle.model.specs.declared.entry.Entry.{Entry}
use Rattle.model.specs.declared.entry.Entry.TheVariants as code

abbrev pub change_of : Entry → Change
change_of (code.Insert row) = inserts row
change_of (code.Delete key) = deletes (datum_of key)
change_of (code.Update row) = updates row

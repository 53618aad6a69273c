-- How entries in code, and the pen after them, stand for those of the definitions.
use Rattle.std.specs.Prelude.{map}
use Rattle.termwiz_cell.specs.ChangeValue.{change_value}
use Rattle.termwiz_line.specs.Entries.{Penned}
use Rattle.termwiz_line.specs.declared.entries.Penned as code

abbrev pub penned_value : code.Penned → Penned
penned_value p = record { entries = map change_value p.entries.items; pen = p.pen.now }

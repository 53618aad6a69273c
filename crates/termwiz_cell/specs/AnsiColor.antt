-- The palette index of each classic colour.
use Rattle.std.specs.Prelude.{ℕ}
use Rattle.termwiz_cell.specs.declared.color.AnsiColor.{AnsiColor}
use Rattle.termwiz_cell.specs.declared.color.AnsiColor.TheVariants.{Black, Maroon, Green, Olive, Navy, Purple, Teal, Silver, Grey, Red, Lime, Yellow, Blue, Fuchsia, Aqua, White}

abbrev pub ansi_index : AnsiColor → ℕ
ansi_index Black = 0
ansi_index Maroon = 1
ansi_index Green = 2
ansi_index Olive = 3
ansi_index Navy = 4
ansi_index Purple = 5
ansi_index Teal = 6
ansi_index Silver = 7
ansi_index Grey = 8
ansi_index Red = 9
ansi_index Lime = 10
ansi_index Yellow = 11
ansi_index Blue = 12
ansi_index Fuchsia = 13
ansi_index Aqua = 14
ansi_index White = 15

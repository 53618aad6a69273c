use Rattle.std.proofs.Common.{◌≡◌, ◌++◌, drop, string_bytes}
use Rattle.termwiz_screen.specs.Chars.{screen_chars}
use Rattle.termwiz_screen.specs.ScreenValue.{cells_of}
use Rattle.termwiz_screen.proofs.rows.chars_of.Given as goal

-- what is left to write leads to the whole text
abbrev pub invariant-loop-i : goal.invariant-loop-i
invariant-loop-i l = string_bytes l.text ++ screen_chars (cells_of (drop l.i l.rows.items)) ≡ screen_chars (cells_of l.rows.items)

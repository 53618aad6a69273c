use Rattle.std.proofs.Common.{◌≡◌, true}
use Rattle.termwiz_line.specs.GrowingText.{ends_printable}
use Rattle.termwiz_line.specs.LastChange.{last_is}
use Rattle.termwiz_line.specs.Writing.{and_cells, spaces_of}
use Rattle.termwiz_line.proofs.entries.writer.RowWriter.push_spaces.Given as goal

-- what is printed, with the spaces left, is what was to be printed
abbrev pub invariant-loop-self : goal.invariant-loop-self
invariant-loop-self l = record {
  printed :
      and_cells (record { entries = l.self-inside.entries; pen = l.self-inside.pen.now }) (spaces_of l.self-inside.spaces l.self-inside.space_attrs.now)
      ≡ and_cells l.fn.self.printed (spaces_of l.fn.self.spaces l.fn.self.space_attrs);
  space_attrs : l.self-inside.space_attrs.now ≡ l.fn.self.space_attrs;
  text : last_is ends_printable l.self-inside.entries ≡ true;
  pen : l.self-inside.space_attrs.now ≡ l.self-inside.pen.now;
}

abbrev pub decreases-loop-self : goal.decreases-loop-self
decreases-loop-self l = l.self-inside.spaces

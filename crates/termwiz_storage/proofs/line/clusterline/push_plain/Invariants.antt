use Rattle.std.proofs.Common.{◌≡◌, ◌≤◌, ◌++◌, take, string_bytes, string_capacity}
use Rattle.termwiz_storage.specs.CellTexts.{cell_texts}
use Rattle.termwiz_storage.specs.PlainCells.{ArePlain}
use Rattle.termwiz_storage.proofs.line.clusterline.push_plain.Given as goal

abbrev pub invariant-loop-i : goal.invariant-loop-i
invariant-loop-i l = record {
  plain : ArePlain l.attrs (take l.i l.cells);
  bytes : string_bytes l.text ≡ string_bytes l.initial.text ++ cell_texts (take l.i l.cells);
  capacity : string_capacity l.initial.text ≤ string_capacity l.text;
}

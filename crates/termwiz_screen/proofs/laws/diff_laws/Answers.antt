use Rattle.termwiz_screen.proofs.Diffs.Lists.{prints_diff, region_diff, gives_rows, gives_region, gives_band}
use Rattle.termwiz_screen.proofs.Repaints.LineEntries.{line_printable}
use Rattle.termwiz_screen.proofs.Diffs.Restoring.{drawing_restores}
use Rattle.termwiz_screen.proofs.laws.diff_laws.Goals as goal

pub returns : goal.returns
returns c = record { prints = prints_diff; region_is = region_diff; rows = gives_rows; region = gives_region; band = gives_band; lines = line_printable; restores = drawing_restores }

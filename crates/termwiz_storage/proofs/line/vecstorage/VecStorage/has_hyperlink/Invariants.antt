use Rattle.std.proofs.Common.{◌≡◌, drop}
use Rattle.std.specs.List.{list_any}
use Rattle.termwiz_storage.specs.Stored.{is_linked}
use Rattle.termwiz_storage.proofs.line.vecstorage.VecStorage.has_hyperlink.Given as goal

-- a link is among those that are left
abbrev pub invariant-loop-cell : goal.invariant-loop-cell
invariant-loop-cell l = list_any is_linked (drop l.cell-index l.cell-items) ≡ list_any is_linked l.self

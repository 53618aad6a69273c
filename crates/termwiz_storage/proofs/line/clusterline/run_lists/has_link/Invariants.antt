use Rattle.std.proofs.Common.{◌≡◌, drop}
use Rattle.std.specs.List.{list_any}
use Rattle.std.specs.Option.{is_some}
use Rattle.termwiz_storage.specs.CellRuns.{attrs_of}
use Rattle.termwiz_storage.proofs.line.clusterline.run_lists.has_link.Given as goal

-- a link is among those of the runs that are left
abbrev pub invariant-loop-run : goal.invariant-loop-run
invariant-loop-run l = list_any (λ a. is_some a.hyperlink) (attrs_of (drop l.run-index l.runs)) ≡ list_any (λ a. is_some a.hyperlink) (attrs_of l.runs)

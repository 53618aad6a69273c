use Rattle.std.proofs.Common.{◌≡◌, ◌∷◌, length}
use Rattle.std.specs.Slice.Iter.{iter_rest}
use Rattle.termwiz_storage.specs.CellRuns.{shapes_of}
use Rattle.termwiz_storage.proofs.line.clusterline.run_lists.ShapeIter.next.Given as goal

abbrev pub invariant-loop-self : goal.invariant-loop-self
invariant-loop-self l = shapes_of (l.self-inside.run ∷ iter_rest l.self-inside.rest) ≡ shapes_of (l.initial.self-inside.run ∷ iter_rest l.initial.self-inside.rest)

abbrev pub decreases-loop-self : goal.decreases-loop-self
decreases-loop-self l = length (iter_rest l.self-inside.rest)

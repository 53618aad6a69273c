use Rattle.std.proofs.Common.{◌∙◌, length, ap, arith}
use Rattle.std.proofs.lemmas.List.Elements.{All-drop, All-take}
use Rattle.termwiz_storage.specs.Stored.{put_run}
use Rattle.termwiz_storage.proofs.Owned.{Unowned, marked_put_run}
use Rattle.termwiz_storage.proofs.Runs.{put_run-part}
use Rattle.termwiz_storage.proofs.line.vecstorage.VecStorage.put_run.Goals as goal

pub put_cells-requires-clause-unowned : goal.put_cells-requires-clause-unowned
put_cells-requires-clause-unowned c = λ h. rw c.deref_mut.ensures.value (All-take Unowned _ _ (All-drop Unowned _ _ (c.self.invariant.unowned h)))

pub invariant_of-self : goal.invariant_of-self
invariant_of-self c =
    let written = put_run-part c.args.i c.self.inside.cells.len c.args.run.now c.args.attrs.now c.self.inside.cells.items c.put_cells.new.cells (omega (arith, ap length c.self.view_is)) c.self.inside.cells.ok.0 c.put_cells.ensures in
    rw (c.max-self-inside.ensures, c.deref_mut.ensures.value, written) (marked_put_run c.self.inside.used c.args.i c.self.inside.owns c.args.run.now c.args.attrs.now c.self.inside.cells.items c.requires.unboxed c.self.invariant)

pub returns : goal.returns
returns c =
    let written = put_run-part c.args.i c.self.inside.cells.len c.args.run.now c.args.attrs.now c.self.inside.cells.items c.put_cells.new.cells (omega (arith, ap length c.self.view_is)) c.self.inside.cells.ok.0 c.put_cells.ensures in
    rw c.deref_mut.ensures.value written ∙ ap (put_run c.args.i c.args.run.now c.args.attrs.now) c.self.view_is

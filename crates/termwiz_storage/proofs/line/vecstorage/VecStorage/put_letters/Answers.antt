use Rattle.std.proofs.Common.{◌*◌, ◌∙◌, length, ap, arith}
use Rattle.std.proofs.lemmas.List.Elements.{All-drop, All-take}
use Rattle.std.specs.Str.{chars}
use Rattle.termwiz_storage.specs.Letters.{put_letters}
use Rattle.termwiz_storage.proofs.LetterRuns.{put_letters-part}
use Rattle.termwiz_storage.proofs.Owned.{Unowned, marked_put_letters}
use Rattle.termwiz_storage.proofs.line.vecstorage.VecStorage.put_letters.Goals as goal

pub put_letter_cells-requires-clause-unowned : goal.put_letter_cells-requires-clause-unowned
put_letter_cells-requires-clause-unowned c = λ h. rw c.deref_mut.ensures.value (All-take Unowned _ _ (All-drop Unowned _ _ (c.self.invariant.unowned h)))

pub invariant_of-self : goal.invariant_of-self
invariant_of-self c =
    let count = c.letter_count-columns.ensures in
    let ends = rw c.deref_mut.ensures.value at c.put_letter_cells.ensures in
    let written = put_letters-part c.args.i (2 * c.letter_count-columns.result) c.self.inside.cells.len (chars c.args.run.now) c.args.attrs.now c.self.inside.cells.items c.put_letter_cells.new.cells (ap (λ n. 2 * n) count) (omega (arith, ap length c.self.view_is)) c.self.inside.cells.ok.0 ends in
    rw (c.max-self-inside.ensures, c.deref_mut.ensures.value, written, count) (marked_put_letters c.self.inside.used c.args.i c.self.inside.owns (chars c.args.run.now) c.args.attrs.now c.self.inside.cells.items c.requires.letters c.requires.unboxed c.self.invariant)

pub returns : goal.returns
returns c =
    let count = c.letter_count-columns.ensures in
    let ends = rw c.deref_mut.ensures.value at c.put_letter_cells.ensures in
    let written = put_letters-part c.args.i (2 * c.letter_count-columns.result) c.self.inside.cells.len (chars c.args.run.now) c.args.attrs.now c.self.inside.cells.items c.put_letter_cells.new.cells (ap (λ n. 2 * n) count) (omega (arith, ap length c.self.view_is)) c.self.inside.cells.ok.0 ends in
    rw c.deref_mut.ensures.value written ∙ ap (put_letters c.args.i (chars c.args.run.now) c.args.attrs.now) c.self.view_is

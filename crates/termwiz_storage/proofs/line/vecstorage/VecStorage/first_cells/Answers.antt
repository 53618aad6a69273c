use Rattle.std.proofs.Common.{◌≡◌, ◌∙◌, ap, min, length, take, List, arith}
use Rattle.std.proofs.lemmas.Grind.{common_steps}
use Rattle.termwiz_cell.specs.CellValue.{CellValue}
use Rattle.termwiz_storage.specs.Stored.{padded}
use Rattle.termwiz_storage.specs.Used.{IsUsedTo}
use Rattle.termwiz_storage.proofs.Owned.{marked_first}
use Rattle.termwiz_storage.proofs.Used.{used-first}
use Rattle.termwiz_storage.proofs.line.vecstorage.VecStorage.first_cells.Goals as goal

pub invariant_of-result : goal.invariant_of-result
invariant_of-result c =
    let copied : c.in_ok-cells.cells.items ≡ take c.min-used.result c.self.inside.cells.items = grind (arith, common_steps, c.in_ok-cells.ensures, c.deref.ensures.value) in
    rw (c.in_ok-pad_cells.ensures.ok, copied) (marked_first c.self.inside.used c.min-used.result c.min-have.result c.self.inside.owns c.self.inside.cells.items c.self.invariant)

pub returns : goal.returns
returns c =
    let cs : List CellValue = c.args.self.now in
    let copied : c.in_ok-cells.cells.items ≡ take c.min-used.result cs = grind (arith, common_steps, c.in_ok-cells.ensures, c.deref.ensures.value, c.self.view_is) in
    let have : c.min-have.result ≡ min c.args.len (length cs) = omega (arith, c.min-have.ensures, c.len.ensures, ap length c.self.view_is, c.self.inside.cells.ok.0) in
    let used : c.min-used.result ≡ min c.min-have.result c.self.inside.used = omega (arith, c.min-used.ensures) in
    let blanks : IsUsedTo c.self.inside.used cs = rw (← c.self.view_is) c.self.invariant.blanks in
    c.in_ok-pad_cells.ensures.ok ∙ ap (padded c.min-have.result) copied ∙ used-first c.self.inside.used c.min-used.result c.min-have.result c.args.len cs blanks have used

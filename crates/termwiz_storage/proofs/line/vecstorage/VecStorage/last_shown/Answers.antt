use Rattle.std.proofs.Common.{◌≡◌, ℕ, ◌+◌, ◌-◌, List, length, sym, ◌∙◌, ap, arith, true, false}
use Rattle.termwiz_cell.specs.CellValue.{CellValue}
use Rattle.termwiz_storage.specs.Stored.{hides}
use Rattle.termwiz_storage.proofs.Wrapped.{last_index-is}
use Rattle.termwiz_storage.proofs.line.vecstorage.VecStorage.last_shown.Goals as goal

pub returns-then-is_hidden-clause-value : goal.returns-then-is_hidden-clause-value
returns-then-is_hidden-clause-value c =
    let cs : List CellValue = c.args.self.now in
    let last : ℕ = c.len-last.result - 1 in
    let long : length cs ≡ last + 1 = omega (arith, c.self.inside.cells.ok.0, ap length c.self.view_is, c.requires) in
    let hidden : hides cs last ≡ true = sym c.is_hidden.ensures.value ∙ c.if-is_hidden.true in
    omega (arith, rw hidden at (last_index-is last cs long))

pub returns-else-is_hidden-clause-value : goal.returns-else-is_hidden-clause-value
returns-else-is_hidden-clause-value c =
    let cs : List CellValue = c.args.self.now in
    let last : ℕ = c.len-last.result - 1 in
    let long : length cs ≡ last + 1 = omega (arith, c.self.inside.cells.ok.0, ap length c.self.view_is, c.requires) in
    let shown : hides cs last ≡ false = sym c.is_hidden.ensures.value ∙ c.if-is_hidden.false in
    omega (arith, rw shown at (last_index-is last cs long))

use Rattle.std.proofs.Common.{◌∙◌, List, ◌++◌, ap₂, arith}
use Rattle.std.proofs.lemmas.Bool.{or_parts}
use Rattle.std.proofs.lemmas.List.Elements.{All-append}
use Rattle.termwiz_cell.specs.CellValue.{CellValue}
use Rattle.termwiz_storage.proofs.Edits.{columns-all}
use Rattle.termwiz_storage.proofs.Owned.{Unowned, marked_all}
use Rattle.termwiz_storage.proofs.line.vecstorage.VecStorage.append_visible.Goals as goal

pub returns-clause-ok : goal.returns-clause-ok
returns-clause-ok c =
    c.in_ok-append.ensures.items
    ∙ ap₂ (λ (xs ys : List CellValue). xs ++ ys) c.self.view_is (c.more.view_is ∙ c.in_ok-more.ensures ∙ columns-all c.len.result c.args.other.now c.len.ensures)

pub invariant_of-self-2 : goal.invariant_of-self-2
invariant_of-self-2 c =
    marked_all _ _ _ (omega (arith, c.len-self-inside.ensures, c.append.new.self.ok.0)) (λ h.
    let parts = or_parts c.self.inside.owns c.more.inside.owns h in
    rw c.in_ok-append.ensures.items (All-append Unowned _ _ (c.self.invariant.unowned parts.0) (c.more.invariant.unowned parts.1)))

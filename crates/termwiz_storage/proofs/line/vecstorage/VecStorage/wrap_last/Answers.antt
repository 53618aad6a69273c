use Rattle.std.proofs.Common.{◌≡◌, false, ℕ, ◌+◌, ◌-◌, List, length, set, sym, ◌∙◌, ap, arith}
use Rattle.termwiz_cell.specs.CellValue.{CellValue}
use Rattle.termwiz_storage.specs.Stored.{stored}
use Rattle.termwiz_storage.specs.Wrapped.{with_wrapped}
use Rattle.termwiz_storage.specs.Used.{OwnNothing}
use Rattle.termwiz_storage.proofs.Owned.{marked_all, nothing_wrapped}
use Rattle.termwiz_storage.proofs.Wrapped.{wrapped_last-shown, wrapped_last-hidden}
use Rattle.termwiz_storage.proofs.line.vecstorage.VecStorage.wrap_last.Goals.{then-is_hidden, else-is_hidden}
use Rattle.termwiz_storage.proofs.line.vecstorage.VecStorage.wrap_last.Goals as goal

pub invariant_of-self : goal.invariant_of-self
invariant_of-self c =
    let cs : List CellValue = c.self.inside.cells.items in
    let first : c.if-is_hidden.self-inside.owns ≡ false → OwnNothing c.if-is_hidden.self-inside.cells.items = elim c.if-is_hidden.branch [
      | then-is_hidden w ↦ rw w.self-inside-is (λ h. rw w.put_wrapped.ensures (nothing_wrapped c.args.wrapped (c.len-last.result - 1 - 1) cs (c.self.invariant.unowned h)))
      | else-is_hidden w ↦ rw w.self-inside-is c.self.invariant.unowned
    ] in
    marked_all _ _ _ (omega (arith, c.put_wrapped-2.new.cells.ok.0)) (λ h. rw c.put_wrapped-2.ensures (nothing_wrapped c.args.wrapped (c.len-last.result - 1) c.if-is_hidden.self-inside.cells.items (first h)))

pub returns : goal.returns
returns c =
    let b = c.args.wrapped in
    let cs : List CellValue = c.args.self.now in
    let last : ℕ = c.len-last.result - 1 in
    let base : c.self.inside.cells.items ≡ cs = c.self.view_is in
    let long : length cs ≡ last + 1 = omega (arith, c.self.inside.cells.ok.0, ap length base, c.requires) in
    c.put_wrapped-2.ensures ∙ elim c.if-is_hidden.branch [
      | then-is_hidden w ↦
          let mid : w.put_wrapped.new.cells.items ≡ set cs (last - 1) (with_wrapped b (stored cs (last - 1))) = w.put_wrapped.ensures ∙ ap (λ (xs : List CellValue). set xs (last - 1) (with_wrapped b (stored xs (last - 1)))) base in
          rw w.self-inside-is (wrapped_last-hidden b last cs w.put_wrapped.new.cells.items long (c.is_hidden.ensures.some w.if-is_hidden.true) (sym c.is_hidden.ensures.value ∙ w.if-is_hidden.true) mid)
      | else-is_hidden w ↦ rw (w.self-inside-is, base) (wrapped_last-shown b last cs long (sym c.is_hidden.ensures.value ∙ w.if-is_hidden.false))
    ]

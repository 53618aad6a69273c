use Rattle.std.proofs.Common.{◌≡◌, ◌-◌, ◌<◌, ◌≤◌, refl, sym, ◌∙◌, ◌++◌, ◌∷◌, [], List, length, ap, arith}
use Rattle.termwiz_cell.specs.CellValue.{CellValue, half}
use Rattle.termwiz_storage.specs.Stored.{stored, hides}
use Rattle.termwiz_storage.specs.Halves.{missing_half}
use Rattle.termwiz_storage.specs.Used.{IsMarked}
use Rattle.termwiz_storage.proofs.Owned.{marked_half, marked_padded}
use Rattle.termwiz_storage.proofs.Halves.{grown-wide, grown-narrow, resized-grown}
use Rattle.termwiz_storage.proofs.line.vecstorage.VecStorage.resize.Goals as goal
use Rattle.termwiz_storage.proofs.line.vecstorage.VecStorage.resize.Goals.{then-lacks_half+in_ok-push_half, else-lacks_half}

pub returns-clause-ok : goal.returns-clause-ok
returns-clause-ok c =
    let cs : List CellValue = c.args.self.now in
    let base : c.reserve.new.self.items ≡ cs = c.in_ok-reserve.ensures.items ∙ c.self.view_is in
    let short : length cs < c.args.len = omega (arith, c.self.inside.cells.ok.0, ap length c.self.view_is) in
    let hang : c.lacks_half.result ≡ hides cs (length cs) = c.lacks_half.ensures ∙ ap (λ (xs : List CellValue). hides xs (length xs)) base in
    let grown : c.if-lacks_half.self-inside.cells.items ≡ cs ++ missing_half cs = elim c.if-lacks_half.branch [
      | then-lacks_half+in_ok-push_half w ↦
          rw w.self-inside-is (w.in_ok-push_half.ensures.ok ∙ ap (λ (xs : List CellValue). xs ++ half (stored xs (length xs - 1)) ∷ []) base ∙ grown-wide cs (half (stored cs (length cs - 1))) (sym hang ∙ w.if-lacks_half.true) refl)
      | else-lacks_half w ↦ rw w.self-inside-is (base ∙ grown-narrow cs (sym hang ∙ w.if-lacks_half.false))
    ] in
    c.pad_in_room.ensures ∙ resized-grown c.args.len cs c.if-lacks_half.self-inside.cells.items short grown

pub invariant_of-self-3 : goal.invariant_of-self-3
invariant_of-self-3 c =
    let before : IsMarked c.if-lacks_half.self-inside.used c.if-lacks_half.self-inside.owns c.if-lacks_half.self-inside.cells.items = elim c.if-lacks_half.branch [
      | then-lacks_half+in_ok-push_half w ↦
          let long : length w.push_half.new.cells.items ≤ w.len-self-inside.result = omega (arith, w.push_half.new.cells.ok.0) in
          rw w.self-inside-is (marked_half c.self.inside.used w.len-self-inside.result c.self.inside.owns c.reserve.new.self.items (half (stored c.reserve.new.self.items (length c.reserve.new.self.items - 1))) w.push_half.new.cells.items long refl w.in_ok-push_half.ensures.ok (rw c.in_ok-reserve.ensures.items c.self.invariant))
      | else-lacks_half w ↦ rw w.self-inside-is (rw c.in_ok-reserve.ensures.items c.self.invariant)
    ] in
    rw c.pad_in_room.ensures (marked_padded _ c.args.len _ _ before)

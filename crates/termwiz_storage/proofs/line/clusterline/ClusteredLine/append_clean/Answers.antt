use Rattle.std.proofs.Common.{◌≡◌, ℕ, Bool, ◌+◌, ◌∙◌, ap, sym, arith, string_bytes}
use Rattle.std.proofs.lemmas.Bool.{cond-true, cond-false}
use Rattle.termwiz_cell.specs.CellValue.{columns}
use Rattle.termwiz_storage.specs.CellRuns.{attrs_of, shapes_of}
use Rattle.termwiz_storage.specs.Clustered.{IsClusteredText}
use Rattle.termwiz_storage.proofs.Clustered.{IsSound-push, cells_from-push}
use Rattle.termwiz_storage.proofs.line.clusterline.ClusteredLine.append_clean.Goals.{then-wide, else-wide}
use Rattle.termwiz_storage.proofs.line.clusterline.ClusteredLine.append_clean.Goals as goal

pub invariant_of-self-2 : goal.invariant_of-self-2
invariant_of-self-2 c =
    let s = c.self.inside in
    let width : c.if-wide.width ≡ columns (record { text = c.args.text.now; wide = c.args.wide; attrs = c.args.attrs.now }) = elim c.if-wide.branch [
      | then-wide w ↦ w.width-is ∙ sym (cond-true c.args.wide 2 1 w.if-wide.true)
      | else-wide w ↦ w.width-is ∙ sym (cond-false c.args.wide 2 1 w.if-wide.false)
    ] in
    rw (c.push_text.ensures, c.push_shape.ensures.shapes, c.in_ok-push_attrs.ensures.ok, c.in_ok-reserve.ensures.items, c.in_ok-reserve-2.ensures.bytes)
    (IsSound-push (string_bytes s.text) c.args.text.now (shapes_of s.shapes.items) _ (attrs_of s.attrs.items) c.args.attrs.now s.len (s.len + c.if-wide.width) c.utf8.text c.requires c.self.invariant c.shape_of.ensures.len (ap (λ (n : ℕ). s.len + n) width ∙ ap (λ (b : Bool). s.len + columns (record { text = c.args.text.now; wide = b; attrs = c.args.attrs.now })) (sym c.shape_of.ensures.wide)) (omega arith))

pub returns-clause-ok : goal.returns-clause-ok
returns-clause-ok c =
    let s = c.self.inside in
    let h : IsClusteredText (string_bytes s.text) (shapes_of s.shapes.items) (attrs_of s.attrs.items) s.len = c.self.invariant in
    rw (c.push_text.ensures, c.push_shape.ensures.shapes, c.in_ok-push_attrs.ensures.ok, c.in_ok-reserve.ensures.items, c.in_ok-reserve-2.ensures.bytes, ← c.self.view_is, ← c.shape_of.ensures.wide)
    (cells_from-push (string_bytes s.text) c.args.text.now (shapes_of s.shapes.items) _ (attrs_of s.attrs.items) c.args.attrs.now h.cuts h.aligned c.shape_of.ensures.len)

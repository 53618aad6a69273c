use Rattle.std.proofs.Common.{◌≡◌, ◌∙◌, ap, arith, drop, length, List, ℕ, string_bytes, sym, take}
use Rattle.std.proofs.lemmas.List.{length-take, length-take-le, take-append-drop, take-append-le}
use Rattle.termwiz_cell.specs.CellValue.{CellValue}
use Rattle.termwiz_storage.specs.CellRuns.{attrs_of, shapes_of}
use Rattle.termwiz_storage.proofs.PlainCells.{has_plain_run, split_before_plain}
use Rattle.termwiz_storage.proofs.line.clusterline.ClusteredLine.append_run.Goals as goal

pub truncate-requires : goal.truncate-requires
truncate-requires c =
    let text = c.reserve-2.new.self in
    let t : List ℕ = string_bytes text in
    let run : List CellValue = take c.push_plain-count.result (take c.min-most.result c.args.cells.now) in
    let end : c.len-end.result ≡ length t = omega (arith, c.len-end.ensures) in
    λ _. rw (c.push_plain-count.ensures.bytes, end) (split_before_plain t run c.args.attrs.now c.push_plain-count.ensures.plain)

pub invariant_of-self-2 : goal.invariant_of-self-2
invariant_of-self-2 c =
    let s = c.self.inside in
    let n : ℕ = c.push_plain-count.result in
    let cells : List CellValue = take c.min-most.result c.args.cells.now in
    let count : length (take n cells) ≡ n = length-take-le n cells c.push_plain-count.ensures.within in
    rw (c.push_plain-count.ensures.bytes, c.push_shape.ensures.shapes, c.one_char.ensures, c.in_default.ensures.ok, c.in_ok-reserve.ensures.items, c.in_ok-reserve-2.ensures.bytes)
    (has_plain_run (take n cells) (string_bytes s.text) (shapes_of s.shapes.items) (attrs_of s.attrs.items) s.len n c.args.attrs.now c.args.self.now c.push_plain-count.ensures.plain c.self.invariant c.self.view_is count (omega (arith, length-take c.min-most.result c.args.cells.now))).sound

pub returns-clause-ok : goal.returns-clause-ok
returns-clause-ok c =
    let s = c.self.inside in
    let n : ℕ = c.push_plain-count.result in
    let most : ℕ = c.min-most.result in
    let cells : List CellValue = take most c.args.cells.now in
    let count : length (take n cells) ≡ n = length-take-le n cells c.push_plain-count.ensures.within in
    let front : take n cells ≡ take n c.args.cells.now = sym (take-append-le n cells (drop most c.args.cells.now) c.push_plain-count.ensures.within) ∙ ap (take n) (take-append-drop most c.args.cells.now) in
    rw (c.push_plain-count.ensures.bytes, c.push_shape.ensures.shapes, c.one_char.ensures, c.in_default.ensures.ok, c.in_ok-reserve.ensures.items, c.in_ok-reserve-2.ensures.bytes, ← front)
    (has_plain_run (take n cells) (string_bytes s.text) (shapes_of s.shapes.items) (attrs_of s.attrs.items) s.len n c.args.attrs.now c.args.self.now c.push_plain-count.ensures.plain c.self.invariant c.self.view_is count (omega (arith, length-take most c.args.cells.now))).cells

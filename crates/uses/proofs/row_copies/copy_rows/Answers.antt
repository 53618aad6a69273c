use Rattle.std.proofs.Common.{◌≡◌, ◌∷◌, [], List, ap, arith, get_or, length, rules, Bor, sym, take, ◌++◌, ◌∙◌}
use Rattle.std.proofs.lemmas.List.{get_or-map, length-map, map-append, take_more}
use Rattle.termwiz_surface.specs.declared.Line.{Line}
use Rattle.termwiz_surface.specs.{CellValue, LineValue, cells_of}
use Rattle.uses.proofs.row_copies.copy_rows.Goals as goal

pub loop-row-preserved : goal.loop-row-preserved
loop-row-preserved g c =
    let lines : List (List CellValue) = c.args.surface.now.lines in
    let row = c.loop-row.row in
    let copy : LineValue = c.in_ok-clone.field-0 in
    let copied : copy.cells ≡ (get_or c.in_ok-lines.lines.items row c.index.result.now).now.cells = search rules in
    let here : copy.cells ≡ get_or lines row [] =
    copied
    ∙ sym (get_or-map (λ (l : Bor Line). l.now.cells) c.in_ok-lines.lines.items row c.index.result.now [] (omega arith))
    ∙ ap (λ (rows : List (List CellValue)). get_or rows row []) c.in_ok-lines.ensures.cells in
    ap cells_of c.in_ok-push.ensures.items
    ∙ map-append (λ (l : LineValue). l.cells) c.loop-row.copies.items (copy ∷ [])
    ∙ ap (λ (rows : List (List CellValue)). rows ++ copy.cells ∷ []) c.loop-row.invariant
    ∙ ap (λ (cells : List CellValue). take row lines ++ cells ∷ []) here
    ∙ sym (take_more lines row [] (omega (arith, ap length c.in_ok-lines.ensures.cells, length-map c.in_ok-lines.lines.items (λ (l : Bor Line). l.now.cells))))

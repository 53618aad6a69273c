use Rattle.std.proofs.Common.{◌≡◌, ◌<◌, ◌≤◌, inl, inr, [], length, slice_set, sym, subst, ◌∙◌, ap, arith}
use Rattle.std.proofs.lemmas.Bool.{cases_eq}
use Rattle.std.proofs.lemmas.List.{ext_get_or, get_or-map, get_or-set_other, length-map, length-set}
use Rattle.termwiz_surface.specs.{LineValue, cells_of, number_at, row_at, row_of, screen_of, shown_at}
use Rattle.uses.specs.RowCopies.{rows_shown}
use Rattle.uses.proofs.RowCopies.{copied-here, copied-there, left-here}
use Rattle.uses.proofs.row_copies.refresh_rows.Goals as goal

pub loop-row-preserved : goal.loop-row-preserved
loop-row-preserved g c =
    let before = c.loop-row.invariant in
    let copies = c.loop-row.copies in
    let row = c.loop-row.row in
    let width = c.args.surface.now.width in
    let copy : LineValue = c.refresh_row.new.copy in
    let count : length (cells_of copies) ≡ length copies = length-map copies (λ (l : LineValue). l.cells) in
    let inside : row < length copies = omega (arith, before.all, count, c.loop-row-test.true, c.dimensions-height.ensures.height) in
    record {
      all = omega (arith, before.all, count, length-set copies row copy, length-map (slice_set copies row copy) (λ (l : LineValue). l.cells));
      done = λ j l. elim (cases_eq j row) [
        | inl e ↦ ap (row_of width) (ap (row_at (cells_of (slice_set copies row copy))) e ∙ copied-here copies row copy inside) ∙ c.in_ok-refresh_row.ensures.copied ∙ ap (shown_at c.args.surface.now) (sym e)
        | inr other ↦ ap (row_of width) (copied-there copies row j copy other) ∙ before.done j (omega arith)
      ];
      left = λ j l. copied-there copies row j copy (λ e. omega arith) ∙ before.left j (omega arith);
      kept = λ j d some le. elim (cases_eq j row) [
        | inl e ↦ left-here copies row j c.index-copies-row.result copy d inside c.index-copies-row.is (c.refresh_row.ensures.left some (subst (λ i. number_at c.args.surface.now i ≤ c.args.since) e le) ∙ sym c.index-copies-row.is) e ∙ before.kept j d some le
        | inr other ↦ get_or-set_other copies row j copy d other ∙ before.kept j d some le
      ];
    }

pub returns-clause-copied : goal.returns-clause-copied
returns-clause-copied g c =
    let done = c.loop-row.invariant in
    let s = c.args.surface.now in
    let copies = cells_of c.loop-row.copies in
    let full : length s.lines ≡ s.height = c.dimensions-height.ensures.sound.full in
    ext_get_or [] (rows_shown s.width c.loop-row.copies) (screen_of s).rows (length-map copies (row_of s.width) ∙ done.all ∙ sym full ∙ sym (length-map s.lines (row_of s.width)))
    (λ j l.
    let inside : j < length copies = omega (arith, l, length-map copies (row_of s.width)) in
    get_or-map (row_of s.width) copies j [] [] inside
    ∙ done.done j (omega (arith, inside, done.all, c.loop-row-test.false, c.dimensions-height.ensures.height))
    ∙ sym (get_or-map (row_of s.width) s.lines j [] [] (omega (arith, inside, done.all, full))))

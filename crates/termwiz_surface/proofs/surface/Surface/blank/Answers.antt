use Rattle.std.proofs.Common.{◌≡◌, ◌+◌, List, [], true, length, ap, ◌∙◌, refl, arith, replicate, subst, sym}
use Rattle.std.proofs.lemmas.List.{length-replicate, get_or-replicate}
use Rattle.termwiz_cell.specs.Measure.{measure}
use Rattle.std.specs.Prelude.{None}
use Rattle.termwiz_cell.specs.CellValue.{blank}
use Rattle.std.proofs.lemmas.List.Elements.{All-replicate}
use Rattle.termwiz_line.specs.LineValue.{LineValue}
use Rattle.termwiz_screen.specs.ScreenValue.{blank_line, cells_of}
use Rattle.termwiz_screen.specs.Sides.{AreVectors, row_flags}
use Rattle.termwiz_screen.proofs.Regions.{map-replicate}
use Rattle.termwiz_screen.specs.Log.{next_number}
use Rattle.termwiz_screen.specs.Measured.{IsStored}
use Rattle.termwiz_screen.proofs.Sides.{sides-full}
use Rattle.termwiz_screen.proofs.Stored.{IsStored-blank}
use Rattle.termwiz_surface.proofs.surface.Surface.blank.Goals as goal

pub invariant_of-result : goal.invariant_of-result
invariant_of-result g c =
    let rows : List LineValue = c.in_ok-rows.rows.items in
    let cells = ap cells_of c.in_ok-rows.ensures ∙ map-replicate (λ (l : LineValue). l.cells) c.args.height (blank_line c.args.width) in
    let vectors : AreVectors rows = rw c.in_ok-rows.ensures (record { each = All-replicate (λ (l : LineValue). l.is_vector ≡ true) c.args.height (blank_line c.args.width) refl }) in (
      rw cells (record {
        some_column = c.requires.size.some_column;
        some_row = c.requires.size.some_row;
        fits = c.requires.size.fits;
        fits_height = c.requires.size.fits_height;
        full = length-replicate _ _;
        sides = sides-full c.in_ok-rows.rows.items (ap length cells ∙ length-replicate _ _);
        column = omega arith;
        row = c.requires.size.some_row;
        number_fits = omega (arith, ap next_number c.pass.ensures, ap next_number c.new-log.ensures);
        regions = rw c.pass.ensures refl;
        stored_so = λ j l. subst (IsStored (measure g.W.Widths.width_of c.args.widths) c.args.width) (sym (get_or-replicate c.args.height j (replicate c.args.width blank) [] l)) (IsStored-blank (measure g.W.Widths.width_of c.args.widths) c.args.width (record { space = g.met.W.Widths.space_has_one c.args.widths None }) c.requires.size.some_column);
      }),
      vectors,
      omega (arith, c.in_ok-numbers.ensures.len),
    )

pub returns : goal.returns
returns g c =
    let cells = ap cells_of c.in_ok-rows.ensures ∙ map-replicate (λ (l : LineValue). l.cells) c.args.height (blank_line c.args.width) in
    let flags = ap row_flags c.in_ok-rows.ensures ∙ map-replicate (λ (l : LineValue). l.flags) c.args.height (blank_line c.args.width) in
    let first : 0 + c.args.seq ≡ c.args.seq = omega arith in
    rw (cells, flags, c.in_ok-numbers.ensures.numbers, c.pass.ensures, c.new-log.ensures, c.new-2.ensures.bytes, c.blank.ensures, first) refl

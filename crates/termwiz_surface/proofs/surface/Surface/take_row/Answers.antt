use Rattle.std.proofs.Common.{◌≡◌, ◌<◌, ℕ, List, [], ◌∷◌, length, replicate, set, ap, refl, sym, subst, ◌∙◌, arith}
use Rattle.std.specs.Prelude.{None}
use Rattle.std.proofs.lemmas.List.{map-set}
use Rattle.termwiz_cell.specs.CellValue.{CellValue, blank}
use Rattle.termwiz_cell.specs.Measure.{measure}
use Rattle.termwiz_line.specs.LineFlags.{no_flags}
use Rattle.termwiz_line.specs.LineValue.{LineValue}
use Rattle.termwiz_screen.specs.ScreenValue.{cells_of, numberless}
use Rattle.termwiz_screen.specs.Sides.{row_flags}
use Rattle.termwiz_screen.proofs.Lines.{cells-set, length-cells_of}
use Rattle.termwiz_screen.proofs.RowChanges.Scrolled.{vectors-set}
use Rattle.termwiz_surface.specs.ScrolledOff.{ScrollsOff, ShownRow, row_shown}
use Rattle.termwiz_surface.specs.Surface.{SurfaceValue, IsSound, kept_of, screen_of}
use Rattle.termwiz_surface.proofs.Painted.{becomes-painted}
use Rattle.termwiz_surface.proofs.RowNumbers.{marks-one, set-outside}
use Rattle.termwiz_surface.proofs.ScrolledOff.{IsSound-taken, lengths-set, rows-set, shown-read}
use Rattle.termwiz_surface.proofs.surface.Surface.take_row.Goals as goal

pub invariant_of-self-2 : goal.invariant_of-self-2
invariant_of-self-2 g c =
    let items : List LineValue = c.self.inside.rows.items in
    let row : List CellValue = replicate c.self.inside.width blank in
    let inside : c.args.row < c.self.inside.height = subst (λ (s : SurfaceValue _). c.args.row < s.height) (sym c.self.view_is) c.requires.inside in
    let blank_is : c.take.new.row ≡ numberless row = c.in_ok-take.ensures.row c.requires.keeps in
    let flags : row_flags (set items c.args.row (numberless row)) ≡ set (row_flags items) c.args.row no_flags = map-set (λ (l : LineValue). l.flags) items c.args.row (numberless row) in (
      rw (blank_is, cells-set items c.args.row (numberless row), flags) (IsSound-taken (measure g.W.Widths.width_of c.self.inside.widths) _ (record { space = g.met.W.Widths.space_has_one c.self.inside.widths None }) c.self.invariant.0 c.args.row inside _),
      rw blank_is (vectors-set items c.args.row (numberless row) refl c.self.invariant.1),
      c.mark_row.ensures.len ∙ c.self.invariant.2,
    )

pub returns-clause-ok : goal.returns-clause-ok
returns-clause-ok g c =
    let items : List LineValue = c.self.inside.rows.items in
    let row : List CellValue = replicate c.self.inside.width blank in
    let blank_is : c.take.new.row ≡ numberless row = c.in_ok-take.ensures.row c.requires.keeps in
    let flags : row_flags (set items c.args.row (numberless row)) ≡ set (row_flags items) c.args.row no_flags = map-set (λ (l : LineValue). l.flags) items c.args.row (numberless row) in
    rw (← c.self.view_is, blank_is, cells-set items c.args.row (numberless row), flags) (becomes-painted
    (marks-one c.args.row _ _ refl c.mark_row.ensures.marked
    (set-outside (cells_of items) c.args.row row [])
    (set-outside (row_flags items) c.args.row no_flags no_flags))
    (rows-set c.self.inside.width (cells_of items) c.args.row)
    (lengths-set c.self.inside.width (cells_of items) c.args.row)
    refl)

pub returns-clause-moves : goal.returns-clause-moves
returns-clause-moves g c =
    let items : List LineValue = c.self.inside.rows.items in
    let w : ℕ = c.self.inside.width in
    let inside : c.args.row < c.self.inside.height = subst (λ (s : SurfaceValue _). c.args.row < s.height) (sym c.self.view_is) c.requires.inside in
    let there : c.args.row < length items = omega (arith, inside, c.self.inside.rows.ok.0, c.self.invariant.0.full, length-cells_of items) in
    subst (λ (s : SurfaceValue _). ScrollsOff s.width (row_shown (screen_of s) (kept_of s) c.args.row ∷ []) (g.L.LineSink.lines_of c.args.lines.now) (g.L.LineSink.lines_of c.take.new.self)) c.self.view_is (record {
      lines = c.index_mut.result.now ∷ [];
      behind = c.in_ok-take.ensures.taken c.requires.keeps;
      rows_are = ap (λ (r : ShownRow). r ∷ []) (shown-read w items c.args.row c.index_mut.result.now there c.index_mut.ensures.value);
    })

pub returns-clause-sound : goal.returns-clause-sound
returns-clause-sound g c = subst (λ (s : SurfaceValue _). IsSound (measure g.W.Widths.width_of s.widths) s) c.self.view_is c.self.invariant.0

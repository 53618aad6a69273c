use Rattle.std.proofs.Common.{◌≡◌, List, ap, map, refl, sym, subst, ◌∙◌}
use Rattle.std.specs.List.{All}
use Rattle.std.proofs.lemmas.List.Elements.{All-map}
use Rattle.termwiz_cell.specs.Measure.{measure}
use Rattle.termwiz_storage.specs.Halves.{resized}
use Rattle.termwiz_cell.specs.CellValue.{CellValue}
use Rattle.termwiz_line.specs.LineFlags.{no_flags}
use Rattle.termwiz_line.specs.LineValue.{LineValue}
use Rattle.termwiz_line.specs.Row.{row_of}
use Rattle.termwiz_screen.specs.ScreenValue.{cells_of, numberless}
use Rattle.termwiz_surface.specs.Surface.{screen_of}
use Rattle.termwiz_surface.proofs.Settled.{rows-resized}
use Rattle.termwiz_surface.proofs.surface.Surface.screen.Given as given
use Rattle.termwiz_surface.proofs.surface.Surface.screen.Goals as goal

module _ (g : given.Over) (c : goal.After-result-1 g) where
  pub made : c.in_ok-rows.rows.items ≡ map (λ r. numberless (resized c.self.inside.width r)) (cells_of c.self.inside.rows.items)
  made = c.in_ok-rows.ensures

pub returns-clause-shown : goal.returns-clause-shown
returns-clause-shown g c =
    let rows_are : cells_of c.in_ok-rows.rows.items ≡ map (row_of c.self.inside.width) (cells_of c.self.inside.rows.items) = ap cells_of (made g c) ∙ rows-resized (measure g.W.Widths.width_of c.self.inside.widths) _ c.self.invariant.0 in
    let pen_is : c.in_ok-pen.pen ≡ c.self.inside.pen = c.in_ok-pen.ensures.cases in
    (λ i. record {
      width = c.self.inside.width;
      height = c.self.inside.height;
      rows = rows_are i;
      x = c.self.inside.x;
      y = c.self.inside.y;
      visibility = c.self.inside.visibility;
      pen = pen_is i;
    }) ∙ ap screen_of c.self.view_is

module _ (g : given.Over) (c : goal.After-result-1 g) where
  made_alike : (P : LineValue → Type 0) → ((cs : List CellValue) → P (numberless cs)) → All P c.in_ok-rows.rows.items
  made_alike P h = subst (All P) (sym (made g c)) (All-map P (λ r. numberless (resized c.self.inside.width r)) (cells_of c.self.inside.rows.items) (λ k d l. h _))

pub returns-clause-numbers : goal.returns-clause-numbers
returns-clause-numbers g c = made_alike g c (λ l. l.seqno ≡ 0) (λ cs. refl)

pub returns-clause-flags : goal.returns-clause-flags
returns-clause-flags g c = made_alike g c (λ l. l.flags ≡ no_flags) (λ cs. refl)

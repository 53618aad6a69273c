-- `==` of full screens decides whether their values are equal.
use Rattle.std.proofs.Common.{rules, ◌≡◌}
use Rattle.std.specs.Prelude.{string_bytes}
use Rattle.std.specs.Bool.{Decides}
use Rattle.std.specs.Cmp.Lexicographic.{bytes_decides, pointwise_decides}
use Rattle.std.proofs.lemmas.Bool.Decides.{Decides-like, Decides-and}
use Rattle.termwiz_cell.specs.declared.change.CursorShape.{CursorShape}
use Rattle.termwiz_cell.specs.declared.change.LineAttribute.{LineAttribute}
use Rattle.termwiz_cell.specs.declared.color.ColorAttribute.{ColorAttribute}
use Rattle.termwiz_cell.specs.contracts.change.CursorShapePartialEq.TheImpl as shape
use Rattle.termwiz_cell.specs.contracts.change.LineAttributePartialEq.TheImpl as line
use Rattle.termwiz_cell.specs.contracts.color.ColorAttributePartialEq.TheImpl as color
use Rattle.termwiz_screen.specs.ScreenValue.{screen_value, screen_eq-Decides}
use Rattle.termwiz_screen.specs.FullScreenValue.{full_value}
use Rattle.termwiz_screen.specs.declared.full.FullScreen as code
use Rattle.termwiz_screen.specs.contracts.full.FullScreenPartialEq.TheImpl as full

shape_decides : (a b : CursorShape) → Decides (shape.ghosts.eq a b) (a ≡ b)
shape_decides a b = search rules

color_decides : (a b : ColorAttribute) → Decides (color.ghosts.eq a b) (a ≡ b)
color_decides a b = search rules

line_decides : (a b : LineAttribute) → Decides (line.ghosts.eq a b) (a ≡ b)
line_decides a b = search rules

pub full_decides : (a b : code.FullScreen) → Decides (full.ghosts.eq a b) (full_value a ≡ full_value b)
full_decides a b =
    Decides-like (full.ghosts.eq a b)
    (λ e i. record {
      screen = e.0 i;
      title = e.1.0 i;
      shape = e.1.1.0 i;
      color = e.1.1.1.0 i;
      lines = e.1.1.1.1 i;
    })
    (λ e. (
      (λ i. (e i).screen),
      (
        (λ i. (e i).title),
        ((λ i. (e i).shape), ((λ i. (e i).color), (λ i. (e i).lines))),
      ),
    ))
    (Decides-and _ _ (screen_eq-Decides (screen_value a.screen) (screen_value b.screen))
    (Decides-and _ _ (bytes_decides (string_bytes a.title) (string_bytes b.title))
    (Decides-and _ _ (shape_decides a.shape b.shape)
    (Decides-and _ _ (color_decides a.color b.color)
    (pointwise_decides line_decides a.lines.items b.lines.items)))))

-- What contracts see of a copied screen, and its `==`.
use Rattle.std.specs.Prelude.{◌≡◌, ℕ, Bool, ◌&&◌, ◌==◌, List, map, replicate, true}
use Rattle.std.specs.Bool.{Decides}
use Rattle.std.specs.Cmp.Lexicographic.{pointwise, pointwise_decides}
use Rattle.std.proofs.lemmas.Bool.Decides.{Decides-like, Decides-and, Decides-eqb}
use Rattle.termwiz_cell.specs.Attributes.{attributes_eq, attributes_eq-Decides}
use Rattle.termwiz_cell.specs.CellValue.{CellValue, blank}
use Rattle.termwiz_cell.specs.ChangeValue.{visibility_eq, visibility_eq-Decides}
use Rattle.termwiz_storage.specs.CellLists.{cells_eq, cells_eq-Decides}
use Rattle.termwiz_line.specs.LineFlags.{no_flags}
use Rattle.termwiz_line.specs.LineValue.{LineValue}
use Rattle.termwiz_screen.specs.Screen.{Screen}
use Rattle.termwiz_screen.specs.declared.screen.Screen as code

-- the cells of lines
abbrev pub cells_of : List LineValue → List (List CellValue)
cells_of lines = map (λ l. l.cells) lines

abbrev pub screen_value : code.Screen → Screen
screen_value s =
    record {
      width = s.width;
      height = s.height;
      rows = cells_of s.rows.items;
      x = s.cursor.0;
      y = s.cursor.1;
      visibility = s.visibility;
      pen = s.pen;
    }

-- the line of a row: a vector under the number 0, without flags
abbrev pub numberless : List CellValue → LineValue
numberless cs = record { cells = cs; seqno = 0; flags = no_flags; is_vector = true }

-- the line of a row of w default blanks
abbrev pub blank_line : ℕ → LineValue
blank_line w = numberless (replicate w blank)

-- `==` of rows
abbrev pub rows_eq : List (List CellValue) → List (List CellValue) → Bool
rows_eq a b = pointwise cells_eq a b

-- `==` of screens
abbrev pub screen_eq : Screen → Screen → Bool
screen_eq a b =
    (a.width == b.width) &&
    ((a.height == b.height) &&
    ((a.x == b.x) &&
    ((a.y == b.y) &&
    (visibility_eq a.visibility b.visibility &&
    (attributes_eq a.pen b.pen && rows_eq a.rows b.rows)))))

pub screen_eq-Decides : (a b : Screen) → Decides (screen_eq a b) (a ≡ b)
screen_eq-Decides a b =
    Decides-like (screen_eq a b)
    (λ e i.
    record {
      width = e.0 i;
      height = e.1.0 i;
      x = e.1.1.0 i;
      y = e.1.1.1.0 i;
      visibility = e.1.1.1.1.0 i;
      pen = e.1.1.1.1.1.0 i;
      rows = e.1.1.1.1.1.1 i;
    })
    (λ e. (
      (λ i. (e i).width),
      (
        (λ i. (e i).height),
        (
          (λ i. (e i).x),
          ((λ i. (e i).y), ((λ i. (e i).visibility), ((λ i. (e i).pen), (λ i. (e i).rows)))),
        ),
      ),
    ))
    (Decides-and _ _ (Decides-eqb a.width b.width)
    (Decides-and _ _ (Decides-eqb a.height b.height)
    (Decides-and _ _ (Decides-eqb a.x b.x)
    (Decides-and _ _ (Decides-eqb a.y b.y)
    (Decides-and _ _ (visibility_eq-Decides a.visibility b.visibility)
    (Decides-and _ _ (attributes_eq-Decides a.pen b.pen)
    (pointwise_decides cells_eq-Decides a.rows b.rows)))))))

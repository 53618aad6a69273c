-- `==` of lines: number, flags and cells, whichever form stores them.
use Rattle.std.specs.Prelude.{◌≡◌, ℕ, Bool, ◌&&◌, ◌==◌, List}
use Rattle.std.specs.Bool.{Decides, beq}
use Rattle.std.specs.Cmp.{booleans_Decides}
use Rattle.std.proofs.lemmas.Bool.Decides.{Decides-like, Decides-and, Decides-eqb}
use Rattle.termwiz_cell.specs.CellValue.{CellValue}
use Rattle.termwiz_storage.specs.CellLists.{cells_eq, cells_eq-Decides}
use Rattle.termwiz_line.specs.LineFlags.{LineFlags}
use Rattle.termwiz_line.specs.LineValue.{LineValue}

-- what sets a line apart from another
pub record LineContents : Type 0 where
  pub cells : List CellValue
  pub seqno : ℕ
  pub flags : LineFlags

abbrev pub line_contents : LineValue → LineContents
line_contents l = record { cells = l.cells; seqno = l.seqno; flags = l.flags }

abbrev pub flags_eq : LineFlags → LineFlags → Bool
flags_eq a b =
    beq a.bidi_enabled b.bidi_enabled &&
    (beq a.double_width b.double_width && (beq a.double_height_top b.double_height_top
    &&
    (beq a.double_height_bottom b.double_height_bottom &&
    (beq a.right_to_left b.right_to_left && beq a.auto_detect b.auto_detect))))

pub flags_eq-Decides : (a b : LineFlags) → Decides (flags_eq a b) (a ≡ b)
flags_eq-Decides a b =
    Decides-like (flags_eq a b)
    (λ e i.
    record {
      bidi_enabled = e.0 i;
      double_width = e.1.0 i;
      double_height_top = e.1.1.0 i;
      double_height_bottom = e.1.1.1.0 i;
      right_to_left = e.1.1.1.1.0 i;
      auto_detect = e.1.1.1.1.1 i;
    })
    (λ e. (
      (λ i. (e i).bidi_enabled),
      (
        (λ i. (e i).double_width),
        (
          (λ i. (e i).double_height_top),
          (
            (λ i. (e i).double_height_bottom),
            ((λ i. (e i).right_to_left), (λ i. (e i).auto_detect)),
          ),
        ),
      ),
    ))
    (Decides-and _ _ (booleans_Decides a.bidi_enabled b.bidi_enabled) (Decides-and _ _
    (booleans_Decides a.double_width b.double_width)
    (Decides-and _ _ (booleans_Decides a.double_height_top b.double_height_top) (Decides-and _ _
    (booleans_Decides a.double_height_bottom b.double_height_bottom)
    (Decides-and _ _ (booleans_Decides a.right_to_left b.right_to_left)
    (booleans_Decides a.auto_detect b.auto_detect))))))

abbrev pub contents_eq : LineContents → LineContents → Bool
contents_eq a b = a.seqno == b.seqno && (flags_eq a.flags b.flags && cells_eq a.cells b.cells)

pub contents_eq-Decides : (a b : LineContents) → Decides (contents_eq a b) (a ≡ b)
contents_eq-Decides a b =
    Decides-like (contents_eq a b)
    (λ e i. record { cells = e.1.1 i; seqno = e.0 i; flags = e.1.0 i })
    (λ e. ((λ i. (e i).seqno), ((λ i. (e i).flags), (λ i. (e i).cells))))
    (Decides-and _ _ (Decides-eqb a.seqno b.seqno)
    (Decides-and _ _ (flags_eq-Decides a.flags b.flags) (cells_eq-Decides a.cells b.cells)))

abbrev pub line_eq : LineValue → LineValue → Bool
line_eq a b = contents_eq (line_contents a) (line_contents b)

pub line_eq-Decides : (a b : LineValue) → Decides (line_eq a b) (line_contents a ≡ line_contents b)
line_eq-Decides a b = contents_eq-Decides (line_contents a) (line_contents b)

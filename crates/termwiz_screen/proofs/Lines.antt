-- The cells of lines that are read, set and taken in turn.
use Rattle.std.proofs.Common.{◌≡◌, ℕ, ◌+◌, ◌<◌, List, [], ◌∷◌, ◌++◌, length, get_or, map, take, drop, set, sym, ◌∙◌, ap, arith}
use Rattle.std.proofs.lemmas.List.{get_or-map, set-get_or, map-set, map-append, map_more, at_drop_more, length-map}
use Rattle.termwiz_cell.specs.CellValue.{CellValue}
use Rattle.termwiz_line.specs.LineValue.{LineValue}
use Rattle.termwiz_line.specs.Row.{row_of}
use Rattle.termwiz_screen.specs.Chars.{row_chars, screen_chars}
use Rattle.termwiz_screen.specs.Screen.{row_at}
use Rattle.termwiz_screen.specs.ScreenValue.{cells_of}

pub length-cells_of : (ls : List LineValue) → length (cells_of ls) ≡ length ls
length-cells_of ls = length-map ls (λ (l : LineValue). l.cells)

pub cells-read : (ls : List LineValue) (i : ℕ) (l : LineValue) → i < length ls → l ≡ get_or ls i l → row_at (cells_of ls) i ≡ l.cells
cells-read ls i l h e = get_or-map (λ (v : LineValue). v.cells) ls i l [] h ∙ sym (ap (λ (v : LineValue). v.cells) e)

-- the row that a line shows
pub row-read : (w : ℕ) (ls : List LineValue) (i : ℕ) (l : LineValue) → i < length ls → l ≡ get_or ls i l → row_at (map (row_of w) (cells_of ls)) i ≡ row_of w l.cells
row-read w ls i l h e = get_or-map (row_of w) (cells_of ls) i [] [] (omega (arith, length-cells_of ls)) ∙ ap (row_of w) (cells-read ls i l h e)

pub cells-set : (ls : List LineValue) (i : ℕ) (l : LineValue) → cells_of (set ls i l) ≡ set (cells_of ls) i l.cells
cells-set ls i l = map-set (λ (v : LineValue). v.cells) ls i l

-- a line that keeps its cells
pub cells-set_same : (ls : List LineValue) (i : ℕ) (l m : LineValue) → i < length ls → l ≡ get_or ls i l → m.cells ≡ l.cells → cells_of (set ls i m) ≡ cells_of ls
cells-set_same ls i l m h e q = cells-set ls i m ∙ ap (set (cells_of ls) i) (q ∙ sym (cells-read ls i l h e)) ∙ set-get_or (cells_of ls) i []

-- one more line
pub mapped-more : {Y : Type 0} (f : List CellValue → Y) (ls : List LineValue) (i : ℕ) (l : LineValue) → i < length ls → l ≡ get_or ls i l
    → map f (cells_of (take i ls)) ++ f l.cells ∷ [] ≡ map f (cells_of (take (i + 1) ls))
mapped-more f ls i l h e =
    sym (map-append f (cells_of (take i ls)) (l.cells ∷ []))
    ∙ ap (λ (v : LineValue). map f (cells_of (take i ls) ++ v.cells ∷ [])) e
    ∙ ap (map f) (sym (map_more (λ (v : LineValue). v.cells) ls i l h))

pub chars-more : (ls : List LineValue) (i : ℕ) (l : LineValue) → i < length ls → l ≡ get_or ls i l
    → row_chars l.cells ++ screen_chars (cells_of (drop (i + 1) ls)) ≡ screen_chars (cells_of (drop i ls))
chars-more ls i l h e =
    ap (λ (v : LineValue). row_chars v.cells ++ screen_chars (cells_of (drop (i + 1) ls))) e
    ∙ sym (at_drop_more (λ (vs : List LineValue). screen_chars (cells_of vs)) ls i l h)

-- The texts of stored rows are those of the screen's rows within their stored lengths.
use Rattle.std.proofs.Common.{◌≡◌, ℕ, zero, suc, ◌<◌, ◌≤◌, cond, List, [], ◌∷◌, ◌++◌, length, map, refl, sym, ap, ap₂, ◌∙◌, arith}
use Rattle.termwiz_cell.specs.CellValue.{CellValue, is_wide}
use Rattle.termwiz_storage.specs.Stored.{stored, visible}
use Rattle.termwiz_storage.specs.VisibleCell.{at_column}
use Rattle.termwiz_line.specs.Row.{is_hidden, visible_upto, row_of}
use Rattle.termwiz_screen.specs.Screen.{row_at}
use Rattle.termwiz_line.specs.Texts.{texts_of}
use Rattle.termwiz_screen.specs.Chars.{newline, screen_chars}
use Rattle.termwiz_screen.specs.ShownChars.{shown_chars}
use Rattle.termwiz_line.proofs.RowOf.{row_of_at, visible_row}

same_hidden : (r t : List CellValue) (k : ℕ) → ((j : ℕ) → j < k → stored r j ≡ stored t j) → is_hidden r k ≡ is_hidden t k
same_hidden r t zero h = refl
same_hidden r t (suc j) h = ap is_wide (h j (omega arith))

-- what is visible before a column depends on the cells before it alone
visible_prefix : (r t : List CellValue) (n : ℕ) → ((k : ℕ) → k < n → stored r k ≡ stored t k) → visible_upto r n ≡ visible_upto t n
visible_prefix r t zero h = refl
visible_prefix r t (suc k) h =
    ap₂ (λ u v. u ++ v) (visible_prefix r t k (λ j l. h j (omega arith)))
    (ap₂ (λ b c. cond b [] (at_column k c ∷ [])) (same_hidden r t k (λ j l. h j (omega arith))) (h k (omega arith)))

-- the visible cells of a stored row are those of its row before its length
pub visible_stored : (w : ℕ) (cs : List CellValue) → length cs ≤ w → visible cs ≡ visible_upto (row_of w cs) (length cs)
visible_stored w cs l =
    visible_row cs ∙ visible_prefix (row_of (length cs) cs) (row_of w cs) (length cs) (λ k m. row_of_at (length cs) cs k m ∙ sym (row_of_at w cs k (omega arith)))

pub chars_shown : (w : ℕ) (lines : List (List CellValue)) → ((j : ℕ) → j < length lines → length (row_at lines j) ≤ w) → screen_chars lines ≡ shown_chars (map (row_of w) lines) (map length lines)
chars_shown w [] h = refl
chars_shown w (cs ∷ lines) h =
    ap₂ (λ a b. a ++ b) (ap (λ v. texts_of v ++ newline) (visible_stored w cs (h 0 (omega arith)))) (chars_shown w lines (λ j l. h (suc j) (omega arith)))

-- Plain cells that go directly after the last one, in its pen.
use Rattle.std.proofs.Common.{◌≡◌, ℕ, ◌+◌, cond, ◌&&◌, List, [], ◌∷◌, ◌++◌, append-nil, eq-eqb, refl, sym, ap, ap₂, ◌∙◌}
use Rattle.std.specs.Prelude.{Some, unwrap_or}
use Rattle.termwiz_cell.specs.Attributes.{Attributes, attributes_eq-Decides}
use Rattle.termwiz_cell.specs.CellValue.{plain_cell}
use Rattle.termwiz_cell.specs.ChangeValue as change
use Rattle.termwiz_cell.specs.ChangeValue.{ChangeValue}
use Rattle.termwiz_line.specs.Entries.{add_text}
use Rattle.termwiz_screen.specs.Place.{cursor_at}
use Rattle.termwiz_screen.specs.Prints.{Print}
use Rattle.termwiz_screen.specs.Diff.{End, PrintedOut, move_to, pen_to, print_out}
use Rattle.termwiz_screen.specs.Ends.{ended_at}

-- they need no move and no pen
pub plain_behind : (es : List ChangeValue) (x y : ℕ) (pen : Attributes) (b : ℕ) → ended_at (add_text es (b ∷ [])) (x + 1) y pen ≡ print_out (ended_at es x y pen) (record { row = y; column = x; cell = plain_cell b pen })
plain_behind es x y pen b =
    let e : End = record { x = x; y = y; pen = pen } in
    let p : Print = record { row = y; column = x; cell = plain_cell b pen } in
    let moves : [] ≡ move_to (Some e) p = sym (ap₂ (λ s t. cond (s && t) [] (cursor_at x y ∷ [])) (eq-eqb x x refl) (eq-eqb y y refl)) in
    let pens : [] ≡ pen_to (Some e) p = sym (ap (λ s. cond s [] (change.AllAttributes pen ∷ [])) ((attributes_eq-Decides pen pen).1 refl)) in
    ap (λ fs. ended_at (add_text fs (b ∷ [])) (x + 1) y pen)
    (sym (append-nil es) ∙ sym (append-nil (es ++ [])) ∙ ap₂ (λ ms ps. (es ++ ms) ++ ps) moves pens)

-- there is one last end
pub one_end : (d : PrintedOut) (q e : End) → d.end ≡ Some q → d.end ≡ Some e → q ≡ e
one_end d q e g h = ap (λ o. unwrap_or o q) (sym g ∙ h)

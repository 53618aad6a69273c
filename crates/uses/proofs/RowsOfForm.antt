-- Screens that text can print have rows of their size.
use Rattle.std.proofs.Common.{◌≡◌, ℕ, List, subst, sym}
use Rattle.termwiz_surface.specs.{AreRows, IsPrintable, Screen}

pub rows_of_form : (f : List ℕ → ℕ) (t : Screen) → IsPrintable f t → AreRows t.width t.height t.rows
rows_of_form f t form = record { full = form.full; each = λ j lt. (form.rows_so j lt).row }

-- and of the size of a screen that is as large
pub rows_as_large : (f : List ℕ → ℕ) (s t : Screen) → s.width ≡ t.width → s.height ≡ t.height → IsPrintable f t → AreRows s.width s.height t.rows
rows_as_large f s t same_width same_height form =
    subst (λ w. AreRows w s.height t.rows) (sym same_width) (subst (λ h. AreRows t.width h t.rows) (sym same_height) (rows_of_form f t form))

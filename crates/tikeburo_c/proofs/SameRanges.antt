-- Ranges of widths are equal exactly where their fields are.
use Rattle.std.proofs.Common.{◌≡◌, ◌&&◌, ◌==◌}
use Rattle.std.specs.Bool.{Decides}
use Rattle.std.proofs.lemmas.Bool.Decides.{Decides-and, Decides-eqb, Decides-like}
use Rattle.tikeburo_c.specs.declared.tables.WidthRange.{WidthRange}

pub range_eq-Decides : (a b : WidthRange) → Decides ((a.first == b.first) && ((a.last == b.last) && (a.columns == b.columns))) (a ≡ b)
range_eq-Decides a b =
    Decides-like _ (λ e i. record { first = e.0 i; last = e.1.0 i; columns = e.1.1 i })
    (λ e. ((λ i. (e i).first), ((λ i. (e i).last), (λ i. (e i).columns))))
    (Decides-and _ _ (Decides-eqb a.first b.first) (Decides-and _ _ (Decides-eqb a.last b.last) (Decides-eqb a.columns b.columns)))

use Rattle.std.proofs.Common.{sym, ap, subst, arith}
use Rattle.termwiz_surface.specs.{IsPast, ViewerValue, full_of, full_screens, measure, screen_of, screens}
use Rattle.uses.proofs.sharing.join.Goals as goal

-- each of its numbers names the screen that it has
pub returns-clause-first : goal.returns-clause-first
returns-clause-first g c fresh =
    let f = measure g.W.Widths.width_of in
    let s = c.args.surface.now in
    let none = ap (λ (v : ViewerValue _). v.last) c.in_ok-viewer.ensures.blank in
    record {
      one_measure = ap (λ (v : ViewerValue _). f v.surface.widths) c.in_ok-viewer.ensures.blank;
      past = λ n. screen_of s;
      is_past = subst (IsPast screens (f s.widths) (λ n. screen_of s) (screen_of s)) (sym fresh) (c.history_laws.ensures.first (f s.widths) (λ n. screen_of s) (screen_of s));
      not_ahead = omega (arith, none);
      names = record { named = λ some. absurd (some none) };
    }

pub returns-clause-first_fully : goal.returns-clause-first_fully
returns-clause-first_fully g c fresh =
    let f = measure g.W.Widths.width_of in
    let s = c.args.surface.now in
    let none = ap (λ (v : ViewerValue _). v.last) c.in_ok-viewer.ensures.blank in
    record {
      one_measure = ap (λ (v : ViewerValue _). f v.surface.widths) c.in_ok-viewer.ensures.blank;
      past = λ n. full_of s;
      is_past = subst (IsPast full_screens (f s.widths) (λ n. full_of s) (full_of s)) (sym fresh) (c.full_history_laws.ensures.first (f s.widths) (λ n. full_of s) (full_of s));
      not_ahead = omega (arith, none);
      names = record { named = λ some. absurd (some none) };
    }

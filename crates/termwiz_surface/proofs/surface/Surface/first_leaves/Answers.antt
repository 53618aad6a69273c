use Rattle.std.proofs.Common.{◌≡◌, ◌+◌, ◌≤◌, ℕ, List, [], true, false, get_or, length, ap, sym, subst, ◌∙◌, arith}
use Rattle.std.specs.Prelude.{◌==◌, nat_le, nat_lt}
use Rattle.std.specs.List.{concat}
use Rattle.std.proofs.lemmas.Bool.{le-ltb}
use Rattle.unicode_segmentation.specs.Grapheme.{graphemes}
use Rattle.unicode_segmentation.proofs.SegmentsLemmas.{concat-segments}
use Rattle.termwiz_cell.specs.Measure.{measure}
use Rattle.termwiz_cell.proofs.Graphemes.{no_grapheme}
use Rattle.termwiz_surface.specs.Surface.{SurfaceValue, screen_of}
use Rattle.termwiz_surface.proofs.ScrolledOff.{cell-leaves, wrap-test}
use Rattle.termwiz_surface.proofs.surface.Surface.first_leaves.Goals as goal

pub returns-then-as_bytes-ge32-clause-leaves : goal.returns-then-as_bytes-ge32-clause-leaves
returns-then-as_bytes-ge32-clause-leaves g c =
    let s : SurfaceValue _ = c.args.self.now in
    let text : List ℕ = c.args.text.now in
    let high : 32 ≤ get_or text 0 0 = rw c.as_bytes.ensures.value at c.if-as_bytes-ge32.true in
    let last : nat_lt (s.y + 1) s.height ≡ false = subst (λ (v : SurfaceValue _). nat_lt (v.y + 1) v.height ≡ false) c.self.view_is (le-ltb _ _ c.if-self.false) in
    let test : nat_le c.self.inside.width c.self.inside.x ≡ (s.x == s.width) = subst (λ (v : SurfaceValue _). nat_le c.self.inside.width c.self.inside.x ≡ (v.x == v.width)) c.self.view_is (wrap-test c.self.inside.x c.self.inside.width c.self.invariant.0.column) in
    let whole : concat (graphemes true text) ≡ text = concat-segments _ text c.utf8.text in
    test ∙ sym (cell-leaves (measure g.W.Widths.width_of s.widths) (screen_of s) text (graphemes true text) c.requires high whole last)

pub unreachable-requires : goal.unreachable-requires
unreachable-requires g c =
    let nothing : c.args.text.now ≡ [] = no_grapheme c.args.text.now c.utf8.text (c.in-None.ensures {u = tt}) in
    absurd (omega (arith, ap length nothing))

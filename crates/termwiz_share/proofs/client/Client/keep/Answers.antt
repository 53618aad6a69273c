use Rattle.std.proofs.Common.{◌≡◌, ◌++◌, List, ℕ, drop, sym, ◌∙◌}
use Rattle.termwiz_cell.specs.Measure.{measure}
use Rattle.termwiz_share.proofs.Resumed.{leads_behind, on_ok}
use Rattle.termwiz_share.proofs.client.Client.keep.Goals as goal

pub invariant_of-self-else-is_err : goal.invariant_of-self-else-is_err
invariant_of-self-else-is_err g c =
    let kept : List ℕ = drop c.self.inside.start c.self.inside.bytes.items in
    let is : drop c.append.new.start c.append.new.bytes.items ≡ kept ++ c.args.piece.now = on_ok _ c.append.result (sym c.is_err.ensures.value ∙ c.if-is_err.false) c.append.ensures.added in
    let leads = leads_behind (measure g.W.Widths.width_of c.self.inside.display.surface.widths) c.self.inside.limits kept c.args.piece.now c.self.inside.begun c.self.invariant.2 in
    (c.append.ensures.within, c.self.invariant.1, rw is leads)

use Rattle.std.proofs.Common.{◌≡◌, ◌||◌, eqb, map, sym, ap, ap₂, ◌∙◌}
use Rattle.termwiz_cell.specs.ChangeValue.{change_value}
use Rattle.termwiz_line.specs.Row.{row_of}
use Rattle.std.specs.VecDeque.{deque_len}
use Rattle.termwiz_screen.specs.Diff.{Region, cut}
use Rattle.termwiz_screen.specs.RegionValue.{region_value}
use Rattle.termwiz_screen.specs.ScreenValue.{cells_of}
use Rattle.termwiz_screen.proofs.Diffs.Calls.{nothing_there}
use Rattle.termwiz_screen.proofs.diff.lists.diff_rows.Goals as goal

pub returns-then-is_empty : goal.returns-then-is_empty
returns-then-is_empty c =
    let r = cut (region_value c.args.region) c.args.width (deque_len c.args.own.now) c.args.other_width (deque_len c.args.other.now) in
    let fits : region_value c.cut-region.result ≡ r = c.cut-region.ensures ∙ ap₂ (λ h k. cut (region_value c.args.region) c.args.width h c.args.other_width k) c.len.ensures c.len-2.ensures in
    ap (map change_value) c.new.ensures.items
    ∙ sym (nothing_there (map (row_of c.args.width) (cells_of c.args.own.now.items)) (map (row_of c.args.other_width) (cells_of c.args.other.now.items)) r
    (ap (λ (s : Region). eqb s.width 0 || eqb s.height 0) (sym fits) ∙ sym c.is_empty.ensures ∙ c.if-is_empty.true))

use Rattle.std.proofs.Common.{◌∙◌}
use Rattle.std.proofs.Math.Seq.{map-set_same}
use Rattle.termwiz_cell.specs.{change_value}
use Rattle.termwiz_cell.proofs.change.own_links.Goals as goal

pub returns-in_err-own_link : goal.returns-in_err-own_link
returns-in_err-own_link c =
    let l = c.loop-change in
    map-set_same change_value l.changes l.change-index c.own_link.new.self c.change-item.result c.own_link.ensures.same ∙ l.invariant

pub loop-change-preserved : goal.loop-change-preserved
loop-change-preserved c =
    let l = c.loop-change in
    map-set_same change_value l.changes l.change-index c.own_link.new.self c.change-item.result c.own_link.ensures.same ∙ l.invariant

use Rattle.std.proofs.Common.{◌+◌, ◌-◌, ◌≤◌, length, refl, ◌∙◌, arith}
use Rattle.termwiz_screen.specs.ScreenValue.{blank_line}
use Rattle.termwiz_screen.proofs.Regions.{scrolled_down}
use Rattle.termwiz_screen.proofs.rows.scroll_region_down.Goals as goal

pub returns-clause-ok : goal.returns-clause-ok
returns-clause-ok c =
    let old = c.args.rows.now.items in
    let inside : c.args.first + c.args.size ≤ length old = omega (arith, c.requires.inside, c.args.rows.now.ok.0) in
    c.turn_region.ensures ∙ scrolled_down (blank_line c.args.width) old c.args.first c.args.size inside c.args.count c.min-gone.result (c.args.first + (c.args.size - c.min-gone.result)) (c.args.size - c.min-gone.result) c.blank_some.new.rows.items c.min-gone.ensures refl refl c.in_ok-blank_some.ensures.ok

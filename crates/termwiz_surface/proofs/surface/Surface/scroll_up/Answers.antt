use Rattle.std.proofs.Common.{◌≡◌, arith}
use Rattle.termwiz_surface.proofs.ScrolledOff.{up-over}
use Rattle.termwiz_surface.proofs.surface.Surface.scroll_up.Goals as goal

pub returns-clause-ok : goal.returns-clause-ok
returns-clause-ok g c =
    let zero : c.args.first ≡ 0 = omega arith in
    rw zero (up-over c.args.self.now c.take_rows.new.self c.scroll_region_up-2.new.self c.args.size c.args.count c.min.result c.min.ensures c.in_ok-take_rows.ensures.ok c.in_ok-scroll_region_up-3.ensures.ok)

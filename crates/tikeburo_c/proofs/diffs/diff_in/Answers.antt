use Rattle.tikeburo_c.proofs.Differing.{region_diff_is, screens_diff_is}
use Rattle.tikeburo_c.proofs.diffs.diff_in.Goals as goal

pub returns-in-Some : goal.returns-in-Some
returns-in-Some c =
    let e = c.diff_region.ensures in
    rw c.in-Some.is (region_diff_is _ c.args.surface.now c.args.other.now c.diff_region.result e.entries e.diff e.region)

pub returns-in-None : goal.returns-in-None
returns-in-None c =
    let e = c.diff_screens.ensures in
    rw c.in-None.is (screens_diff_is c.args.surface.now c.args.other.now c.diff_screens.result e.entries e.diff e.rows e.equal)

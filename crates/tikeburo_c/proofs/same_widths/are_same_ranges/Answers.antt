use Rattle.std.proofs.lemmas.Slice.Eq.{slice_eq-Decides}
use Rattle.tikeburo_c.proofs.SameRanges.{range_eq-Decides}
use Rattle.tikeburo_c.proofs.same_widths.are_same_ranges.Goals as goal

pub returns : goal.returns
returns c = slice_eq-Decides range_eq-Decides c.args.ranges.now c.args.others.now c.eq.result c.eq.ensures

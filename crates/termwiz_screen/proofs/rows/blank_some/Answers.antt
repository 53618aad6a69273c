use Rattle.std.proofs.Common.{◌+◌, ◌-◌, ◌<◌, length, slice_set, refl, arith}
use Rattle.termwiz_line.proofs.Fills.{on_err}
use Rattle.termwiz_screen.specs.Rows.{ArePartlyReset}
use Rattle.termwiz_screen.specs.ScreenValue.{blank_line}
use Rattle.termwiz_screen.proofs.Regions.{blank_step}
use Rattle.termwiz_screen.proofs.RowChanges.Scrolled.{partly_reset, vectors-set}
use Rattle.termwiz_screen.proofs.Sides.{set-unchanged}
use Rattle.termwiz_screen.proofs.rows.blank_some.Goals as goal

pub loop-i-preserved : goal.loop-i-preserved
loop-i-preserved c = rw c.in_ok-blank_out.ensures.ok (record {
  items = blank_step (blank_line c.args.width) c.args.rows.now.items c.loop-i.rows.items c.args.first c.loop-i.i (c.loop-i.i - c.args.first) (c.loop-i.i + 1 - c.args.first) (omega arith) (omega arith) (omega (arith, c.requires.inside, c.args.rows.now.ok.0)) c.loop-i.invariant.items;
  len = c.loop-i.invariant.len;
  vectors = vectors-set c.loop-i.rows.items c.loop-i.i (blank_line c.args.width) refl c.loop-i.invariant.vectors;
})

pub returns-in_err-blank_out-clause-err : goal.returns-in_err-blank_out-clause-err
returns-in_err-blank_out-clause-err c =
    let old = c.args.rows.now.items in
    let rows = c.loop-i.rows.items in
    let inside : c.loop-i.i < length rows = omega (arith, c.requires.inside, c.args.rows.now.ok.0, c.loop-i.rows.ok.0, c.loop-i.invariant.len) in
    let before : ArePartlyReset (blank_line c.args.width) old rows =
    partly_reset (blank_line c.args.width) old rows c.args.first (c.loop-i.i - c.args.first) c.loop-i.i (omega arith) (omega (arith, c.requires.inside, c.args.rows.now.ok.0)) c.loop-i.invariant.items in
    let same = set-unchanged rows c.loop-i.i c.index_mut.result.now c.blank_out.new.self inside c.index_mut.ensures.value c.loop-i.invariant.vectors c.in_err-blank_out.ensures.err in
    let done : ArePartlyReset (blank_line c.args.width) old (slice_set rows c.loop-i.i c.blank_out.new.self) = rw same before in
    on_err _ done

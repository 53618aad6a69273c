use Rattle.std.proofs.Common.{◌<◌, ap, arith, length, ◌∙◌}
use Rattle.std.proofs.Math.Seq.{map-set_same}
use Rattle.termwiz_line.specs.LineEq.{line_contents}
use Rattle.tikeburo_c.proofs.LinesCompressed.{one_compressed, same_contents}
use Rattle.tikeburo_c.proofs.line_list.compress_all.Goals as goal

pub loop-i-preserved : goal.loop-i-preserved
loop-i-preserved c =
    let l = c.loop-i in
    let lines = l.lines.items in
    let line = c.index_mut.result.now in
    let new = c.compress_for_scrollback.new.self in
    let e = c.in_ok-compress_for_scrollback.ensures in
    let inside : l.i < length lines = omega (arith, l.lines.ok.0, c.args.lines.now.ok.0, c.requires.inside, c.loop-i-test.true, l.invariant.0.same_count) in
    let same = same_contents line new e.cells e.number e.flags in (
      one_compressed c.args.first l.i c.args.lines.now.items lines line new l.auto.i inside c.index_mut.ensures.value (record { same = same; text = e.clustered }) l.invariant.0,
      map-set_same line_contents lines l.i new line (same ∙ ap line_contents c.index_mut.ensures.value) ∙ l.invariant.1,
    )

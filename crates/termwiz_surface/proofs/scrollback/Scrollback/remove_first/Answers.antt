use Rattle.std.proofs.Common.{◌≡◌, ◌∙◌, ℕ, min, length, drop, ap, arith, length-drop}
use Rattle.std.proofs.lemmas.List.{drop-drop, drop_min}
use Rattle.termwiz_surface.proofs.scrollback.Scrollback.remove_first.Goals as goal

pub loop-line-preserved : goal.loop-line-preserved
loop-line-preserved c =
    let before = c.loop-line.invariant in
    let one = c.remove_oldest.ensures in
    record {
      lines = one.lines ∙ ap (drop 1) before.lines ∙ drop-drop 1 c.loop-line._line c.args.self.now.lines.items;
      spared = omega (arith, one.spared, before.spared);
      few = omega (arith, one.few, before.few);
    }

pub returns-clause-lines : goal.returns-clause-lines
returns-clause-lines c =
    let xs = c.args.self.now.lines.items in
    let xs_len = c.args.self.now.lines.ok.0 in
    let all : c.loop-line._line ≡ min c.args.count (length xs) = omega (arith, c.min-removed.ensures, c.len.ensures, xs_len) in
    c.loop-line.invariant.lines ∙ ap (λ (n : ℕ). drop n xs) all ∙ drop_min c.args.count xs

pub returns-clause-spared : goal.returns-clause-spared
returns-clause-spared c =
    let xs = c.args.self.now.lines.items in
    omega (arith, c.loop-line.invariant.spared, ap length c.loop-line.invariant.lines, length-drop c.loop-line._line xs, c.min-removed.ensures, c.len.ensures, c.args.self.now.lines.ok.0)

pub returns-clause-few : goal.returns-clause-few
returns-clause-few c =
    let xs = c.args.self.now.lines.items in
    omega (arith, c.loop-line.invariant.few, ap length c.loop-line.invariant.lines, length-drop c.loop-line._line xs, c.min-removed.ensures, c.len.ensures, c.len-2.ensures, c.args.self.now.lines.ok.0)

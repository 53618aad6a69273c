use Rattle.std.proofs.Common.{◌≡◌, ◌↔◌, IsTrue, Bool, sym, subst}
use Rattle.termwiz_line.specs.LineEq.{line_contents, line_eq-Decides}
use Rattle.termwiz_line.proofs.line.line.LinePartialEq.eq.Goals as goal

pub returns-clause-same : goal.returns-clause-same
returns-clause-same c = subst (λ (b : Bool). IsTrue b ↔ (line_contents c.args.self.now ≡ line_contents c.args.other.now)) (sym c.is_same.ensures) (line_eq-Decides c.args.self.now c.args.other.now)

use Rattle.std.proofs.Common.{ap, ◌∙◌}
use Rattle.termwiz_storage.specs.LastCell.{last_attrs}
use Rattle.termwiz_storage.specs.Stored.{visible}
use Rattle.termwiz_line.specs.LineValue.{LineValue}
use Rattle.termwiz_line.proofs.LastWrapped.{is_marked, is_marked-last}
use Rattle.termwiz_line.proofs.line.line.Line.last_cell_was_wrapped.Goals as goal

pub returns-in-Some : goal.returns-in-Some
returns-in-Some c =
    let line : LineValue = c.args.self.now in
    c.wrapped.ensures ∙ ap is_marked (c.in-Some.ensures ∙ ap (λ (l : LineValue). last_attrs (visible l.cells)) c.self.view_is) ∙ is_marked-last (visible line.cells)

pub returns-in-None : goal.returns-in-None
returns-in-None c =
    let line : LineValue = c.args.self.now in
    ap is_marked (c.in-None.ensures ∙ ap (λ (l : LineValue). last_attrs (visible l.cells)) c.self.view_is) ∙ is_marked-last (visible line.cells)

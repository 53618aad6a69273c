use Rattle.std.proofs.Common.{◌<◌, ap, ◌∙◌, subst}
use Rattle.termwiz_line.specs.Writing.{Writing, and_cells, spaces_of}
use Rattle.termwiz_line.proofs.WrittenRows.{one_space}
use Rattle.termwiz_line.proofs.entries.writer.RowWriter.print_spaces.Goals as goal
use Rattle.termwiz_line.proofs.entries.writer.RowWriter.print_spaces.Goals.{then-not-holds_in_text+in_ok-print_space, else-not-holds_in_text}

pub returns-in_ok-push_spaces-clause-printed : goal.returns-in_ok-push_spaces-clause-printed
returns-in_ok-push_spaces-clause-printed c =
    let w = c.args.self.now in
    let some = subst (λ (v : Writing). 0 < v.spaces) c.self.view_is c.if-self-gt0.true in
    let all = λ (v : Writing). and_cells v.printed (spaces_of v.spaces v.space_attrs) in
    c.in_ok-push_spaces.ensures.printed
    ∙ (elim c.if-not-holds_in_text.branch [
      | then-not-holds_in_text+in_ok-print_space t ↦
          let one = t.in_ok-print_space.ensures in
          ap all t.self-is ∙ (λ i. and_cells (one.printed i) (spaces_of (one.spaces i) (one.space_attrs i))) ∙ one_space w.printed w.spaces w.space_attrs some
      | else-not-holds_in_text e ↦ ap all e.self-is
    ])

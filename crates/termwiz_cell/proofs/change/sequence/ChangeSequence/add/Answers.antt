use Rattle.std.proofs.Common.{rules}
use Rattle.termwiz_cell.proofs.change.sequence.ChangeSequence.add.Goals as goal

pub invariant_of-self-2 : goal.invariant_of-self-2
invariant_of-self-2 g c =
    let form = c.self.invariant in
    record {
      some_column = form.some_column;
      few_columns = form.few_columns;
      some_row = form.some_row;
      few_rows = form.few_rows;
      column = search rules;
      least_row = search rules;
      greatest_row = search rules;
      above = search rules;
      below = search rules;
    }

use Rattle.std.proofs.Common.{◌∙◌}
use Rattle.std.proofs.lemmas.Bool.{iff_false}
use Rattle.std.proofs.lemmas.Result.{on_ok_weaker}
use Rattle.termwiz_line.specs.LineValue.{Prunes}
use Rattle.termwiz_line.proofs.Pruned.{length-pruned_fill}
use Rattle.termwiz_storage.proofs.Fill.{fill-closed_form}
use Rattle.termwiz_line.proofs.line.line.Line.fill_range.Goals as goal

pub returns-clause-ok : goal.returns-clause-ok
returns-clause-ok c =
    on_ok_weaker c.prune_trailing_blanks.result
    (λ (p : Prunes c.set_cells.new.self c.args.seqno c.prune_trailing_blanks.new.self). record {
      nothing = λ e b. absurd (iff_false c.stays_empty.ensures c.if-stays_empty.false (e, b));
      filled = λ _. record {
        full = c.set_cells.new.self;
        fills = c.in_ok-set_cells.ensures.ok;
        form = λ l. rw c.in_ok-set_cells.ensures.ok.cells (fill-closed_form c.args.range.start c.args.range.end c.args.cell.now c.args.self.now.cells l);
        prunes = p;
      };
    })
    c.prune_trailing_blanks.ensures.ok

pub returns-clause-appended : goal.returns-clause-appended
returns-clause-appended c =
    on_ok_weaker c.prune_trailing_blanks.result
    (λ (p : Prunes c.set_cells.new.self c.args.seqno c.prune_trailing_blanks.new.self) t e l w u.
    let full = fill-closed_form c.args.range.start c.args.range.end c.args.cell.now c.args.self.now.cells l in
    let same = length-pruned_fill c.args.range.start c.args.range.end c.args.cell.now c.args.self.now.cells _ _ l e w u (rw c.in_ok-set_cells.ensures.ok.cells full) p.cells in
    p.form same ∙ c.in_ok-set_cells.ensures.appended t e l w u)
    c.prune_trailing_blanks.ensures.ok

pub returns-clause-made : goal.returns-clause-made
returns-clause-made c =
    on_ok_weaker c.prune_trailing_blanks.result
    (λ (p : Prunes c.set_cells.new.self c.args.seqno c.prune_trailing_blanks.new.self). record {
      blanks = λ e l s. p.vector (c.in_ok-set_cells.ensures.made.blanks e l s);
      first = λ u l e. p.vector (c.in_ok-set_cells.ensures.made.first u l e);
      second = λ u l w. p.vector (c.in_ok-set_cells.ensures.made.second u l w);
    })
    c.prune_trailing_blanks.ensures.ok

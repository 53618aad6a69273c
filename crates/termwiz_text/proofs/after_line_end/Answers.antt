use Rattle.std.proofs.Common.{sym, ◌∙◌}
use Rattle.termwiz_text.proofs.First.{boundary_after_line_end, line_end_before}
use Rattle.termwiz_text.proofs.after_line_end.Goals as goal

pub split_at-requires : goal.split_at-requires
split_at-requires c = boundary_after_line_end c.args.text.now c.utf8.text (sym c.begins_line_end.ensures ∙ c.if-begins_line_end.true)

pub returns-then-begins_line_end : goal.returns-then-begins_line_end
returns-then-begins_line_end c = line_end_before c.args.text.now c.split_at.result.1.now c.utf8.text (sym c.begins_line_end.ensures ∙ c.if-begins_line_end.true) c.split_at.ensures.back

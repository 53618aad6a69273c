use Rattle.std.proofs.Common.{sym, ◌∙◌}
use Rattle.std.specs.Str.Iter.{chars_rest}
use Rattle.termwiz_text.proofs.First.{IsCharFront, boundary_after_line_end, first_line_end, boundary_after_char, first_simple}
use Rattle.termwiz_text.proofs.split_first_simple.Goals as goal

pub split_at-requires : goal.split_at-requires
split_at-requires c = boundary_after_line_end c.args.text.now c.utf8.text (sym c.begins_line_end.ensures ∙ c.if-begins_line_end.true)

pub returns-then-begins_line_end : goal.returns-then-begins_line_end
returns-then-begins_line_end c =
    first_line_end c.args.text.now c.split_at.result.0.now c.split_at.result.1.now c.utf8.text (sym c.begins_line_end.ensures ∙ c.if-begins_line_end.true) c.split_at.ensures.front c.split_at.ensures.back

pub split_at-requires-2 : goal.split_at-requires-2
split_at-requires-2 c =
    let front : IsCharFront c.args.text.now c.in_ok-first.first c.len_utf8.result = record { rest = chars_rest c.next.new.self; split = sym c.chars.ensures.rest ∙ c.in_ok-first.ensures.steps.0; len = c.len_utf8.ensures.len } in
    boundary_after_char c.args.text.now c.in_ok-first.first c.len_utf8.result c.utf8.text front

pub returns : goal.returns
returns c =
    let front : IsCharFront c.args.text.now c.in_ok-first.first c.len_utf8.result = record { rest = chars_rest c.next.new.self; split = sym c.chars.ensures.rest ∙ c.in_ok-first.ensures.steps.0; len = c.len_utf8.ensures.len } in
    first_simple c.args.text.now c.split_at-2.result.0.now c.split_at-2.result.1.now c.in_ok-first.first c.len_utf8.result c.utf8.text (sym c.begins_line_end.ensures ∙ c.if-begins_line_end.false) front
    c.split_at-2.ensures.front c.split_at-2.ensures.back (sym c.is_simple.ensures ∙ c.if-not-is_simple.false) (sym c.begins_simple.ensures ∙ c.if-not-begins_simple.false)

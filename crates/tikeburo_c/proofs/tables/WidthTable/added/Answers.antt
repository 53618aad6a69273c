use Rattle.std.proofs.Common.{◌≡◌, ◌≤◌, ◌+◌, ap, sym, ◌∙◌, min, sum_by, chars, arith}
use Rattle.std.proofs.lemmas.List.Sums.{sum_by-cons}
use Rattle.std.proofs.lemmas.Str.{IsUtf8-past_char, chars_past_char}
use Rattle.std.proofs.StrCases.{chars_of_empty}
use Rattle.std.specs.Str.Iter.{chars_rest}
use Rattle.tikeburo_c.specs.WidthRanges.{char_columns}
use Rattle.tikeburo_c.proofs.WidthTables.{more_columns}
use Rattle.tikeburo_c.proofs.tables.WidthTable.added.Goals as goal

pub loop-c-preserved : goal.loop-c-preserved
loop-c-preserved c =
    let held = c.loop-c.invariant in
    let parts = c.in-Some.ensures.steps.0 in
    let f = char_columns c.args.self.now.ranges.now in
    let rest = chars (chars_rest c.next.new.self) in
    let step = chars_past_char _ _ c.in-Some.c held.0 parts in
    let before = ap (λ cs. min (c.loop-c.columns + sum_by f cs) 2) step ∙ ap (λ n. min (c.loop-c.columns + n) 2) (sum_by-cons f c.in-Some.c rest) in (
      IsUtf8-past_char _ _ c.in-Some.c held.0 parts,
      rw (c.min-columns.ensures) (omega arith),
      rw (c.min-columns.ensures, c.saturating_add.ensures, c.char_columns.ensures) (more_columns c.loop-c.columns (f c.in-Some.c) (sum_by f rest) ∙ sym before ∙ held.2),
    )

pub returns : goal.returns
returns c =
    let held = c.loop-c.invariant in
    let least : c.loop-c.columns ≤ 2 = held.1 in
    let f = char_columns c.args.self.now.ranges.now in
    let whole : min (c.loop-c.columns + 0) 2 ≡ c.loop-c.columns = omega arith in
    let empty = chars_of_empty _ c.in-None.ensures.steps.0.0 in
    sym whole ∙ ap (λ cs. min (c.loop-c.columns + sum_by f cs) 2) (sym empty) ∙ held.2

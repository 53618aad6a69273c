use Rattle.std.proofs.Common.{◌≡◌, [], ap, sym, ◌∙◌, arith, rules}
use Rattle.std.specs.Prelude.{is_some}
use Rattle.std.proofs.lemmas.Bool.{true≢false}
use Rattle.std.proofs.lemmas.Option.{get_or_from_slice_get, slice_get-get_or}
use Rattle.termwiz_surface.specs.{row_of}
use Rattle.uses.proofs.row_copies.refresh_row.Goals as goal

pub unreachable-requires : goal.unreachable-requires
unreachable-requires g c =
    let there = slice_get-get_or c.args.surface.now.lines c.args.row [] (omega (arith, c.requires.inside, c.requires.full)) in
    true≢false (sym (ap is_some (c.in_default.ensures.cells ∙ there)))

pub returns-clause-copied : goal.returns-clause-copied
returns-clause-copied g c =
    let lines = c.args.surface.now.lines in
    let copied : c.in_ok-copy.field-0.cells ≡ c.in-Some.line.now.cells = search rules in
    ap (row_of c.args.surface.now.width) (copied ∙ sym (get_or_from_slice_get lines c.args.row c.in-Some.line.now.cells [] (sym c.in-Some.ensures.cells)))

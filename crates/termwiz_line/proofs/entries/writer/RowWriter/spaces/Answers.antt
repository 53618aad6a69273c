use Rattle.std.proofs.Common.{◌+◌, ◌<◌, length, ap, sym, ◌∙◌, arith, ltb-true}
use Rattle.std.specs.Prelude.{nat_lt}
use Rattle.std.proofs.lemmas.Bool.{and_parts}
use Rattle.termwiz_cell.specs.Attributes.{attributes_eq, attributes_eq-Decides}
use Rattle.termwiz_line.specs.Entries.{all_spaces}
use Rattle.termwiz_line.specs.Writing.{Writing}
use Rattle.termwiz_line.proofs.WrittenRows.{written_spaces, other_spaces}
use Rattle.termwiz_line.proofs.entries.writer.RowWriter.spaces.Goals as goal

pub returns-then-holds_back : goal.returns-then-holds_back
returns-then-holds_back c =
    λ from cells more h l z.
    let w = c.args.self.now in
    let held = and_parts (nat_lt 0 w.spaces) (attributes_eq w.space_attrs c.args.attrs.now) (sym c.holds_back.ensures ∙ c.if-holds_back.true) in
    let same = (attributes_eq-Decides w.space_attrs c.args.attrs.now).0 held.1 in
    let some : 0 < length more = omega arith in
    written_spaces from cells w _ z more (ap (λ a. all_spaces a more) same ∙ h) (ap (λ (v : Writing). v.printed) c.self.view_is)
    (c.in_ok-self-inside.ensures ∙ (λ i. (c.self.view_is i).spaces + sym l i)) (ap (λ (v : Writing). v.space_attrs) c.self.view_is) (ltb-true 0 w.spaces held.0) some

pub returns : goal.returns
returns c =
    λ from cells more h l z.
    let w = c.args.self.now in
    let some : 0 < length more = omega arith in
    other_spaces from cells w _ z more h (ap (λ (v : Writing). v.printed) c.self-2.view_is ∙ c.in_ok-print_spaces.ensures.printed) (sym l) some (sym c.holds_back.ensures ∙ c.if-holds_back.false)

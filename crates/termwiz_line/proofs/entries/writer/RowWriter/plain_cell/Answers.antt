use Rattle.std.proofs.Common.{◌≡◌, ◌+◌, ◌∷◌, [], true, false, inl, inr, ap, sym, ◌∙◌, bytes_eq}
use Rattle.std.proofs.lemmas.Bool.{cases_Bool, and_from}
use Rattle.std.specs.Cmp.Lexicographic.{bytes_decides}
use Rattle.termwiz_cell.specs.Attributes.{attributes_eq, attributes_eq-Decides}
use Rattle.termwiz_cell.specs.CellValue.{space}
use Rattle.termwiz_line.specs.Entries.{Penned, cell_out}
use Rattle.termwiz_line.specs.GrowingText.{ends_printable}
use Rattle.termwiz_line.specs.LastChange.{last_is}
use Rattle.termwiz_line.specs.Writing.{Writing, and_cells, spaces_of}
use Rattle.termwiz_line.proofs.JoinedTexts.{ends_with_plain}
use Rattle.termwiz_line.proofs.WrittenRows.{written_cell, written_space, out_in_pen, spaces_in_text}
use Rattle.termwiz_line.proofs.entries.writer.RowWriter.plain_cell.Goals as goal

pub returns-then-byte-eq32-clause-cell : goal.returns-then-byte-eq32-clause-cell
returns-then-byte-eq32-clause-cell c =
    λ from cells p text attrs z.
    let w = c.args.self.now in
    let blank : bytes_eq p.cell.text space ≡ true = (bytes_decides p.cell.text space).1 (text ∙ ap (λ b. b ∷ []) c.if-byte-eq32.true) in
    let same : attributes_eq p.cell.attrs w.space_attrs ≡ true = (attributes_eq-Decides p.cell.attrs w.space_attrs).1 (attrs ∙ sym c.requires.text.spaces) in
    written_space from cells w _ z p (and_from (bytes_eq p.cell.text space) (attributes_eq p.cell.attrs w.space_attrs) blank same)
    (ap (λ (v : Writing). v.printed) c.self.view_is) (c.in_ok-self-inside.ensures ∙ (λ i. (c.self.view_is i).spaces + 1)) (ap (λ (v : Writing). v.space_attrs) c.self.view_is)

pub push_plain-requires-clause-behind : goal.push_plain-requires-clause-behind
push_plain-requires-clause-behind c =
    let w = c.args.self.now in
    ap (λ (v : Writing). last_is ends_printable v.printed.entries) c.self-2.view_is
    ∙ ap (λ (d : Penned). last_is ends_printable d.entries) c.in_ok-push_spaces.ensures.printed
    ∙ (spaces_in_text w.spaces w.printed w.space_attrs c.requires.text.text (sym c.requires.text.spaces)).0

pub returns-clause-cell : goal.returns-clause-cell
returns-clause-cell c =
    λ from cells p text attrs z.
    let w = c.args.self.now in
    let d : Penned = record { entries = c.self-2.inside.entries; pen = c.self-2.inside.pen.now } in
    let before : d ≡ and_cells w.printed (spaces_of w.spaces w.space_attrs) = ap (λ (v : Writing). v.printed) c.self-2.view_is ∙ c.in_ok-push_spaces.ensures.printed in
    let pen : d.pen ≡ w.printed.pen =
    ap (λ (e : Penned). e.pen) before ∙ (spaces_in_text w.spaces w.printed w.space_attrs c.requires.text.text (sym c.requires.text.spaces)).1 ∙ c.requires.text.spaces in
    let other : bytes_eq p.cell.text space ≡ false = elim (cases_Bool (bytes_eq p.cell.text space)) [
      | inl t ↦
          let same : c.args.byte ∷ [] ≡ 32 ∷ [] = sym text ∙ (bytes_decides p.cell.text space).0 t in
          let b : c.args.byte ≡ 32 = cc in
          absurd (c.if-byte-eq32.false b)
      | inr f ↦ f
    ] in
    written_cell from cells w _ z p other (ap (λ (v : Writing). v.spaces) c.self-2.view_is ∙ c.in_ok-push_spaces.ensures.spaces)
    (out_in_pen d p (c.args.byte ∷ []) c.push_plain.new.self text (attrs ∙ sym pen) c.in_ok-push_plain.ensures ∙ ap (λ e. cell_out e p) before)

pub returns-clause-text : goal.returns-clause-text
returns-clause-text c =
    let w = c.args.self.now in
    let pen : c.self-2.inside.pen.now ≡ w.space_attrs =
    ap (λ (v : Writing). v.printed.pen) c.self-2.view_is ∙ ap (λ (e : Penned). e.pen) c.in_ok-push_spaces.ensures.printed
    ∙ (spaces_in_text w.spaces w.printed w.space_attrs c.requires.text.text (sym c.requires.text.spaces)).1 in
    record {
      text = ap (last_is ends_printable) c.in_ok-push_plain.ensures ∙ ends_with_plain c.self-2.inside.entries c.args.byte c.requires.plain;
      spaces = ap (λ (v : Writing). v.space_attrs) c.self-2.view_is ∙ c.in_ok-push_spaces.ensures.space_attrs ∙ sym pen;
    }

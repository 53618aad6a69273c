use Rattle.std.proofs.Common.{◌-◌, [], ◌∷◌, ap, sym, ◌∙◌, refl}
use Rattle.termwiz_cell.specs.CellValue.{blank_of}
use Rattle.termwiz_storage.specs.VisibleCell.{at_column}
use Rattle.termwiz_line.specs.Entries.{Penned}
use Rattle.termwiz_line.specs.GrowingText.{ends_printable}
use Rattle.termwiz_line.specs.LastChange.{last_is}
use Rattle.termwiz_line.specs.Writing.{Writing, and_cells, spaces_of}
use Rattle.termwiz_line.proofs.JoinedTexts.{ends_with_plain}
use Rattle.termwiz_line.proofs.WrittenRows.{one_space, out_in_pen}
use Rattle.termwiz_line.proofs.entries.writer.RowWriter.push_spaces.Goals as goal

pub loop-self-init : goal.loop-self-init
loop-self-init c =
    let view = c.self.view_is in
    record {
      printed = λ i. and_cells (view i).printed (spaces_of (view i).spaces (view i).space_attrs);
      space_attrs = ap (λ (v : Writing). v.space_attrs) view;
      text = ap (λ (v : Writing). last_is ends_printable v.printed.entries) view ∙ c.requires.text;
      pen = ap (λ (v : Writing). v.space_attrs) view ∙ c.requires.spaces ∙ sym (ap (λ (v : Writing). v.printed.pen) view);
    }

pub loop-self-preserved : goal.loop-self-preserved
loop-self-preserved c =
    let w = c.loop-self.self-inside in
    let so_far = c.loop-self.invariant in
    let d : Penned = record { entries = w.entries; pen = w.pen.now } in
    let attrs = w.space_attrs.now in
    let printed = out_in_pen d (at_column 0 (blank_of attrs)) (32 ∷ []) c.push_plain.new.self refl so_far.pen c.in_ok-push_plain.ensures in
    record {
      printed = ap (λ e. and_cells e (spaces_of (w.spaces - 1) attrs)) printed ∙ one_space d w.spaces attrs c.loop-self-test.true ∙ so_far.printed;
      space_attrs = so_far.space_attrs;
      text = ap (last_is ends_printable) c.in_ok-push_plain.ensures ∙ ends_with_plain w.entries 32 refl;
      pen = so_far.pen;
    }

use Rattle.std.proofs.Common.{◌++◌, ◌∷◌, [], List, length, refl, ap, sym, ◌∙◌, append_assoc, arith}
use Rattle.termwiz_storage.specs.VisibleCell.{VisibleCell, at_column}
use Rattle.termwiz_cell.specs.CellValue.{plain_cell}
use Rattle.termwiz_line.specs.GrowingText.{ends_printable}
use Rattle.termwiz_line.specs.LastChange.{last_is}
use Rattle.termwiz_line.specs.Writing.{Writing}
use Rattle.termwiz_line.proofs.WrittenRows.{written_attrs}
use Rattle.termwiz_line.proofs.entries.writer.RowWriter.plain_run.Goals as goal

pub loop-byte-init : goal.loop-byte-init
loop-byte-init c =
    let view = c.self.view_is in
    record {
      written = λ from all u. record {
        done = u.done;
        whole = u.whole;
        written = written_attrs from u.done c.args.self.now _ u.written c.requires.spaces (ap (λ (v : Writing). v.printed) view) (ap (λ (v : Writing). v.spaces) view ∙ c.requires.spaces);
      };
      text = record { text = ap (λ (v : Writing). last_is ends_printable v.printed.entries) view ∙ c.requires.text; spaces = refl };
      pen = c.requires.pen ∙ sym (ap (λ (v : Writing). v.printed.pen) view);
      shorter = omega arith;
    }

pub loop-byte-preserved : goal.loop-byte-preserved
loop-byte-preserved c =
    let now = c.loop-byte.invariant in
    let first = c.in-Some.ensures in
    let p : VisibleCell = at_column first.column (plain_cell c.in-Some.byte c.args.pen.now) in
    let left : List VisibleCell = c.next_plain.new.self in
    record {
      written = λ from all start.
          let u = now.written from all start in
          record {
            done = u.done ++ p ∷ [];
            whole = append_assoc u.done (p ∷ []) left ∙ ap (λ l. u.done ++ l) (sym first.first) ∙ u.whole;
            written = c.in_ok-plain_cell.ensures.cell from u.done p refl now.pen u.written;
          };
      text = c.in_ok-plain_cell.ensures.text;
      pen = now.pen ∙ sym c.in_ok-plain_cell.ensures.pen;
      shorter = omega (arith, ap length first.first);
    }

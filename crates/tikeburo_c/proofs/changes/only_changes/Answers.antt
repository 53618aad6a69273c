use Rattle.std.proofs.Common.{ℕ, drop, inr, map}
use Rattle.std.specs.declared.alloc.Global.{Global}
use Rattle.std.specs.declared.vec.Vec.{Vec}
use Rattle.termwiz_cell.specs.ChangeValue.{change_value}
use Rattle.termwiz_cell.specs.declared.change.Change.{Change}
use Rattle.termwiz_wire.specs.Answers.{changes_at}
use Rattle.termwiz_wire.specs.Encoding.{changes}
use Rattle.termwiz_wire.specs.Forms.{AreChanges}
use Rattle.tikeburo_c.proofs.Decoded.{failed_by, more_behind, not_decoded, one_whole}
use Rattle.tikeburo_c.specs.Changes.{IsOnlyList}
use Rattle.tikeburo_c.specs.Outcomes.{decoding_failure}
use Rattle.tikeburo_c.specs.Widths.{columns_by}
use Rattle.tikeburo_c.proofs.changes.only_changes.Goals as goal

pub returns-in_err-changes : goal.returns-in_err-changes
returns-in_err-changes c =
    let bytes = c.args.bytes.now in
    let m = columns_by c.args.widths in
    let e = c.in_err-changes.ensures in
    let wrong = c.in_err-changes.field-0.0 in
    failed_by (IsOnlyList m bytes) c.from_residual.result (decoding_failure wrong) c.from_residual.ensures.1
    (not_decoded (AreChanges m) (changes m) bytes (λ (x : Vec Change Global × ℕ). (map change_value x.0.items, drop x.1 bytes)) wrong (changes_at m bytes) e.exact e.again)

pub returns-then-taken-bytes : goal.returns-then-taken-bytes
returns-then-taken-bytes c =
    let m = columns_by c.args.widths in
    let x = c.in_ok-changes in
    inr (more_behind (AreChanges m) (changes m) c.args.bytes.now (map change_value x.changes.items) x.taken x.ensures.again (changes_at m c.args.bytes.now) x.ensures.exact c.if-taken-bytes.true)

pub returns : goal.returns
returns c =
    let m = columns_by c.args.widths in
    let x = c.in_ok-changes in
    one_whole (AreChanges m) (changes m) c.args.bytes.now (map change_value x.changes.items) x.taken x.ensures.again x.ensures.found.0 c.if-taken-bytes.false

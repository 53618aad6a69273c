use Rattle.std.proofs.Common.{ap}
use Rattle.termwiz_storage.proofs.Whole.{whole-from, whole-is}
use Rattle.termwiz_line.specs.LineEq.{LineContents, line_eq-Decides}
use Rattle.termwiz_line.proofs.laws.storage_laws.Goals as goal

pub returns : goal.returns
returns c = record {
  equal = λ a b. (
    (λ e. let same = (line_eq-Decides a b).0 e in (ap (λ (l : LineContents). l.cells) same, (ap (λ (l : LineContents). l.seqno) same, ap (λ (l : LineContents). l.flags) same))),
    (λ e. (line_eq-Decides a b).1 (λ i. record { cells = e.0 i; seqno = e.1.0 i; flags = e.1.1 i })),
  );
  whole = λ cs. (whole-is cs, whole-from cs);
}

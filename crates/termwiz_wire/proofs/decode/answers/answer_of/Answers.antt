use Rattle.std.proofs.Common.{ℕ, List, map, subst, arith}
use Rattle.cbor.specs.Decoding.{IsBytes}
use Rattle.termwiz_cell.specs.ChangeValue.{change_value}
use Rattle.termwiz_cell.specs.Measure.{measure}
use Rattle.termwiz_wire.proofs.AnswersFound.{each_regions}
use Rattle.termwiz_wire.proofs.decode.answers.answer_of.Goals as goal

pub sent_from-requires-clause-regions : goal.sent_from-requires-clause-regions
sent_from-requires-clause-regions g c =
    each_regions (measure g.W.Widths.width_of c.args.widths.now) c.head_of.new.reader.room c.in-Ok.head c.in-Ok.head.count c.head_of.new.reader.bytes.now (map change_value c.in_ok-changes.changes.items, c.each_of.new.reader.bytes.now)
    (subst (λ (b : List ℕ). IsBytes b) c.rest-bytes.ensures.value c.rest-bytes.ensures.bytes) (omega arith) c.in_ok-changes.ensures.value

use Rattle.cbor.specs.Decoding.{allowed}
use Rattle.termwiz_cell.specs.Measure.{measure}
use Rattle.termwiz_wire.specs.Pieces.{runs}
use Rattle.termwiz_wire.proofs.CutLoops.{pieces_unneeded}
use Rattle.termwiz_wire.proofs.decode.changes.pieces_of.Goals as goal

pub returns-in-None-clause-value : goal.returns-in-None-clause-value
returns-in-None-clause-value g c =
    rw (pieces_unneeded c.args.reader.now.room (allowed c.args.reader.now.room c.args.start.now) c.args.count c.args.text.now (runs (measure g.W.Widths.width_of c.args.widths.now) c.args.text.now) c.args.reader.now.bytes.now c.if-count-eq3.true c.in-None.ensures) c.others_of.ensures.value

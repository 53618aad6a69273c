use Rattle.std.proofs.Common.{ℕ, List, Option, subst}
use Rattle.std.specs.Prelude.{MatchOption, length}
use Rattle.cbor.specs.Decoding.{IsBytes, allowed}
use Rattle.termwiz_cell.specs.Measure.{measure}
use Rattle.termwiz_wire.specs.CutTexts.{PiecesPart, pieces_part, pieces_rest_at, text_begun_at, text_part}
use Rattle.termwiz_wire.specs.Resuming.{HasReadRuns, IsBegunText, ReachesRun, StopsTruncated}
use Rattle.termwiz_wire.specs.declared.decode.cut_texts.BegunPieces.{BegunPieces}
use Rattle.termwiz_wire.specs.declared.decode.cut_texts.Places.{Places}
use Rattle.termwiz_wire.proofs.CutLinks.{unbegun}
use Rattle.termwiz_wire.proofs.CutTexts.{begun_cut, begun_end, begun_places}
use Rattle.termwiz_wire.proofs.decode.cut_texts.begin_text.Given.{Over}
use Rattle.termwiz_wire.proofs.decode.cut_texts.begin_text.Goals as goal
use Rattle.termwiz_wire.proofs.decode.cut_texts.begin_text.Goals.{In-Ok}

-- each byte is below 256
fits : (g : Over) (c : In-Ok g) → IsBytes c.args.reader.now.bytes.now
fits g c = subst (λ (b : List ℕ). IsBytes b) c.rest-start.ensures.value c.rest-start.ensures.bytes

-- what is begun of the text
begun : (g : Over) (c : In-Ok g) → IsBegunText (measure g.W.Widths.width_of c.args.widths.now) c.args.reader.now.room (length c.args.hand.now) c.args.reader.now.bytes.now (text_part c.in-Ok.text) c.text_begun_of.new.reader.bytes.now
begun g c = c.in-Ok.ensures.begins

pub cut_pieces-requires : goal.cut_pieces-requires
cut_pieces-requires g c =
    let before = (goal.at.cut_pieces-requires g c).In-Ok in
    let m : List ℕ → ℕ = measure g.W.Widths.width_of c.args.widths.now in
    record {
      end = begun_end m c.args.reader.now.room c.args.hand.now c.args.reader.now.bytes.now (text_part c.in-Ok.text) c.text_begun_of.new.reader.bytes.now c.requires (fits g before) (begun g before);
      within = begun_places m c.args.reader.now.room c.args.hand.now c.args.reader.now.bytes.now (text_part c.in-Ok.text) c.text_begun_of.new.reader.bytes.now c.requires (fits g before) (begun g before);
    }

pub returns-in-Some : goal.returns-in-Some
returns-in-Some g c = record {
  begins = λ rows cut.
      let before = (goal.at.returns-in-Some g c).In-Ok in
      let room : ℕ = c.args.reader.now.room in
      let first : List ℕ = c.text_begun_of.new.reader.bytes.now in
      let rest : List ℕ = c.cut_pieces.new.reader.bytes.now in
      let places : Places = c.in-Ok.text.places in
      let pieces : PiecesPart = pieces_part c.in-Ok.text.pieces in
      let here : StopsTruncated (pieces_rest_at room places pieces c.args.hand.now first) = begun_cut (measure g.W.Widths.width_of c.args.widths.now) room c.args.hand.now c.args.reader.now.bytes.now (text_part c.in-Ok.text) first c.requires (fits g before) (begun g before) rows cut in
      let gives : StopsTruncated (pieces_rest_at room places pieces c.args.hand.now first) → MatchOption c.in_ok-cut-in-Ok.cut ⊥ (λ (more : BegunPieces). HasReadRuns room places pieces c.args.hand.now first (pieces_part more) rest × ReachesRun room (pieces_part more) rest) = rw (← c.in-Ok.ensures.room) c.in_ok-cut-in-Ok.ensures in
      let both = subst (λ (o : Option BegunPieces). MatchOption o ⊥ (λ (more : BegunPieces). HasReadRuns room places pieces c.args.hand.now first (pieces_part more) rest × ReachesRun room (pieces_part more) rest)) c.in-Some.is (gives here) in
      record { first = first; begun = pieces; begins = begun g before; read = both.0; reached = both.1 };
}

pub returns-in-None : goal.returns-in-None
returns-in-None g c = record {
  begins = λ rows cut.
      let before = (goal.at.returns-in-None g c).In-Ok in
      let room : ℕ = c.args.reader.now.room in
      let first : List ℕ = c.text_begun_of.new.reader.bytes.now in
      let rest : List ℕ = c.cut_pieces.new.reader.bytes.now in
      let places : Places = c.in-Ok.text.places in
      let pieces : PiecesPart = pieces_part c.in-Ok.text.pieces in
      let here : StopsTruncated (pieces_rest_at room places pieces c.args.hand.now first) = begun_cut (measure g.W.Widths.width_of c.args.widths.now) room c.args.hand.now c.args.reader.now.bytes.now (text_part c.in-Ok.text) first c.requires (fits g before) (begun g before) rows cut in
      let gives : StopsTruncated (pieces_rest_at room places pieces c.args.hand.now first) → MatchOption c.in_ok-cut-in-Ok.cut ⊥ (λ (more : BegunPieces). HasReadRuns room places pieces c.args.hand.now first (pieces_part more) rest × ReachesRun room (pieces_part more) rest) = rw (← c.in-Ok.ensures.room) c.in_ok-cut-in-Ok.ensures in
      absurd (subst (λ (o : Option BegunPieces). MatchOption o ⊥ (λ (more : BegunPieces). HasReadRuns room places pieces c.args.hand.now first (pieces_part more) rest × ReachesRun room (pieces_part more) rest)) c.in-None.is (gives here));
}

pub returns-in_default : goal.returns-in_default
returns-in_default g c = record { begins = λ rows cut. (c.rest-start.ensures.value, unbegun c.in-Err.error (allowed c.text_begun_of.new.reader.room c.text_begun_of.new.reader.bytes.now) (text_begun_at c.args.reader.now.room c.args.reader.now.bytes.now) c.in_default.not-Memory c.in-Err.ensures.stops) }

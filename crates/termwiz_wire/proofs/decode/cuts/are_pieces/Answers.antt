use Rattle.termwiz_wire.proofs.CutLoops.{pieces_go_on, pieces_end, pieces_done, room_for}
use Rattle.termwiz_wire.proofs.decode.cuts.are_pieces.Goals as goal

pub split_at-requires : goal.split_at-requires
split_at-requires c = (room_for _ _ _ _ c.loop-test.true c.loop.invariant.within).0

pub returns-then-not-is_piece : goal.returns-then-not-is_piece
returns-then-not-is_piece c =
    pieces_end c.args.count c.loop.counter c.args.size c.loop.left.now _ _ c.is_piece.result _ c.loop-test.true c.split_at.ensures.front c.split_at.ensures.back c.is_piece.ensures c.if-not-is_piece.true c.loop.invariant.rest

pub loop-preserved : goal.loop-preserved
loop-preserved c = record {
  rest = pieces_go_on c.args.count c.loop.counter c.args.size c.loop.left.now _ _ c.is_piece.result _ c.loop-test.true c.split_at.ensures.front c.split_at.ensures.back c.is_piece.ensures c.if-not-is_piece.false c.loop.invariant.rest;
  within = (room_for _ _ _ _ c.loop-test.true c.loop.invariant.within).1 _ c.split_at.ensures.back_len;
}

pub returns : goal.returns
returns c = pieces_done c.args.count c.loop.counter c.args.size c.loop.left.now _ c.loop-test.false c.loop.invariant.rest

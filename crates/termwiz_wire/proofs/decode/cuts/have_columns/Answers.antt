use Rattle.termwiz_wire.proofs.CutLoops.{columns_go_on, columns_end, columns_done, room_for}
use Rattle.termwiz_wire.proofs.decode.cuts.have_columns.Goals as goal

pub split_at-requires : goal.split_at-requires
split_at-requires c = (room_for _ _ _ _ c.loop-test.true c.loop.invariant.within).0

pub returns-then-is_break-wide : goal.returns-then-is_break-wide
returns-then-is_break-wide c =
    columns_end c.args.wide c.args.count c.loop.counter c.args.size c.loop.left.now _ c.is_break.result _ c.loop-test.true c.split_at.ensures.front c.is_break.ensures c.if-is_break-wide.true c.loop.invariant.rest

pub loop-preserved : goal.loop-preserved
loop-preserved c = record {
  rest = columns_go_on c.args.wide c.args.count c.loop.counter c.args.size c.loop.left.now _ _ c.is_break.result _ c.loop-test.true c.split_at.ensures.front c.split_at.ensures.back c.is_break.ensures c.if-is_break-wide.false c.loop.invariant.rest;
  within = (room_for _ _ _ _ c.loop-test.true c.loop.invariant.within).1 _ c.split_at.ensures.back_len;
}

pub returns : goal.returns
returns c = columns_done c.args.wide c.args.count c.loop.counter c.args.size c.loop.left.now _ c.loop-test.false c.loop.invariant.rest

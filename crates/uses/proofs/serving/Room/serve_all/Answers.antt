use Rattle.std.proofs.Common.{ap, subst, ◌∙◌}
use Rattle.std.specs.Result.{result_and}
use Rattle.termwiz_cell.specs.Measure.{measure}
use Rattle.uses.specs.Serving.{RoomValue, ServesAll}
use Rattle.uses.proofs.Served.{served_later}
use Rattle.uses.proofs.serving.Room.serve_all.Goals as goal

pub returns-clause-serves : goal.returns-clause-serves
returns-clause-serves g c =
    let f = measure g.W.Widths.width_of in
    let new : RoomValue _ = record { source = c.serve-third.new.source; first = c.serve-first.new.client; second = c.serve-second.new.client; third = c.serve-third.new.client } in
    let last = c.serve-third.ensures.same in
    subst (λ (r : RoomValue _). ServesAll f r c.and-2.result new) c.self.view_is (record {
      to_first = c.serve-first.result;
      to_second = c.serve-second.result;
      to_third = c.serve-third.result;
      first = served_later f c.serve-first.new.source new.source c.self.inside.first c.serve-first.result new.first (last ∙ c.serve-second.ensures.same) c.serve-first.ensures.once;
      second = served_later f c.serve-second.new.source new.source c.self.inside.second c.serve-second.result new.second last c.serve-second.ensures.once;
      third = c.serve-third.ensures.once;
      comes_to = c.and-2.ensures ∙ ap (λ r. result_and r c.serve-third.result) c.and.ensures;
    })

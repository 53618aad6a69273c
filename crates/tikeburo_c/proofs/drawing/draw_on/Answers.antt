use Rattle.std.proofs.Common.{refl, rules}
use Rattle.std.specs.Prelude.{Ok, Err}
use Rattle.tikeburo_c.proofs.drawing.draw_on.Goals as goal

pub returns-in_err-draw_from : goal.returns-in_err-draw_from
returns-in_err-draw_from c =
    let e = c.in_err-draw_from.ensures in (
      Err c.in_err-draw_from.field-0.0,
      search rules,
      record {
        drawn = e.draws;
        restores = e.restores;
        region = e.region;
        no_scroll = e.no_scroll;
        preserves = e.preserves;
      },
    )

pub returns : goal.returns
returns c =
    let e = c.in_ok-draw_from.ensures in (
      Ok c.in_ok-draw_from.field-0,
      refl,
      record {
        drawn = e.draws;
        restores = e.restores;
        region = e.region;
        no_scroll = e.no_scroll;
        preserves = e.preserves;
      },
    )

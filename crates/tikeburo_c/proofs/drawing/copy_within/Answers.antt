use Rattle.std.proofs.Common.{refl, rules}
use Rattle.std.specs.Prelude.{Ok, Err}
use Rattle.tikeburo_c.proofs.drawing.copy_within.Goals as goal

pub returns-in_err-copy_region : goal.returns-in_err-copy_region
returns-in_err-copy_region c =
    let e = c.in_err-copy_region.ensures in (
      Err c.in_err-copy_region.field-0.0,
      search rules,
      record {
        copied = e.copies;
        region = e.region;
        no_scroll = e.no_scroll;
        preserves = e.preserves;
      },
    )

pub returns : goal.returns
returns c =
    let e = c.in_ok-copy_region.ensures in (
      Ok c.in_ok-copy_region.field-0,
      refl,
      record {
        copied = e.copies;
        region = e.region;
        no_scroll = e.no_scroll;
        preserves = e.preserves;
      },
    )

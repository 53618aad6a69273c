use Rattle.std.proofs.Common.{◌≡◌, ◌++◌, map}
use Rattle.termwiz_surface.specs.{appended, change_value, measure, replay, screen_of}
use Rattle.uses.specs.Making.{HasMade}
use Rattle.uses.proofs.one_by_one.make_one_by_one.Given as goal

-- the changes so far are made and logged, and the size stays
abbrev pub invariant-loop-change : goal.invariant-loop-change
invariant-loop-change g l = record {
  made : HasMade (measure g.W.Widths.width_of) l.initial.surface (map change_value l.yielded) l.surface;
  screen : screen_of l.surface ≡ replay (measure g.W.Widths.width_of l.initial.surface.widths) (screen_of l.initial.surface) (map change_value l.yielded);
  logged : l.surface.log ≡ appended l.initial.surface.log (map change_value l.yielded);
  width : l.surface.width ≡ l.initial.surface.width;
  height : l.surface.height ≡ l.initial.surface.height;
  left : l.yielded ++ l.change-iterator.rest.items ≡ l.fn.changes.items;
}

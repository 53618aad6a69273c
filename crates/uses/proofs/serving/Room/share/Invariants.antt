use Rattle.std.proofs.Common.{◌≡◌, ◌++◌, map}
use Rattle.std.specs.Vec.Iter.{into_iter_items}
use Rattle.termwiz_surface.specs.{change_value, measure}
use Rattle.uses.specs.Making.{HasMade}
use Rattle.uses.proofs.serving.Room.share.Given as goal

-- the changes so far are made, and the clients are as they were
abbrev pub invariant-loop-change : goal.invariant-loop-change
invariant-loop-change g l = record {
  made : HasMade (measure g.W.Widths.width_of) l.initial.self.source.surface (map change_value l.yielded) l.self.source.surface;
  clients : l.self ≡ record l.initial.self { source = l.self.source };
  all : l.fn.changes.items ≡ l.yielded ++ into_iter_items l.change-iterator;
}

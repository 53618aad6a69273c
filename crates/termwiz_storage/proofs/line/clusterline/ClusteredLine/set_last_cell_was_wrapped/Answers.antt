use Rattle.std.proofs.Common.{◌∙◌, ap, string_bytes, length, arith}
use Rattle.termwiz_storage.specs.CellRuns.{attrs_of, shapes_of}
use Rattle.termwiz_storage.specs.Clustered.{IsClusteredText}
use Rattle.termwiz_storage.proofs.ClusterWrapped.{cells_from-marked, marked-some, IsSound-marked}
use Rattle.termwiz_storage.proofs.line.clusterline.ClusteredLine.set_last_cell_was_wrapped.Goals as goal

pub invariant_of-self-2 : goal.invariant_of-self-2
invariant_of-self-2 c =
    let s = c.self.inside in
    rw (c.in_ok-wrap_last.ensures.ok, c.in_ok-reserve.ensures.items)
    (IsSound-marked c.args.wrapped (string_bytes s.text) (shapes_of s.shapes.items) (attrs_of s.attrs.items) s.len c.self.invariant)

pub returns-clause-ok : goal.returns-clause-ok
returns-clause-ok c =
    let s = c.self.inside in
    let h : IsClusteredText (string_bytes s.text) (shapes_of s.shapes.items) (attrs_of s.attrs.items) s.len = c.self.invariant in
    rw (c.in_ok-wrap_last.ensures.ok, c.in_ok-reserve.ensures.items)
    (cells_from-marked c.args.wrapped c.args.self.now (string_bytes s.text) (shapes_of s.shapes.items) (attrs_of s.attrs.items) h.aligned c.self.view_is
    ∙ marked-some c.args.wrapped c.args.self.now (omega (arith, h.len, ap length c.self.view_is)))

use Rattle.std.proofs.Common.{◌≡◌, ◌+◌, ◌-◌, length, arith, sym, ap, ◌∙◌}
use Rattle.termwiz_line.proofs.PlainCells.{cells_length, plain_at, other_at}
use Rattle.termwiz_line.proofs.cellcluster.byte_cells.ByteCells.get.Goals as goal

pub index-requires : goal.index-requires
index-requires c =
    let n : length c.args.self.now ≡ (c.self.inside.plain.end - c.self.inside.plain.start) + length c.self.inside.others.items = ap length (sym c.self.view_is) ∙ cells_length c.self.inside.plain.start c.self.inside.plain.end c.self.inside.others.items in
    omega (arith, n, c.requires, c.if-byte-count.false, c.self.inside.others.ok.0)

pub returns-then-byte-count : goal.returns-then-byte-count
returns-then-byte-count c = rw (← c.self.view_is) (plain_at c.self.inside.plain.start c.self.inside.plain.end c.args.byte c.self.inside.others.items c.if-byte-count.true)

pub returns-else-byte-count : goal.returns-else-byte-count
returns-else-byte-count c =
    let n : length c.args.self.now ≡ (c.self.inside.plain.end - c.self.inside.plain.start) + length c.self.inside.others.items = ap length (sym c.self.view_is) ∙ cells_length c.self.inside.plain.start c.self.inside.plain.end c.self.inside.others.items in
    rw (← c.self.view_is) (other_at c.self.inside.plain.start c.self.inside.plain.end c.args.byte c.self.inside.others.items c.index.result.now c.if-byte-count.false c.index.ensures (omega (arith, n, c.requires, c.if-byte-count.false)))

use Rattle.std.proofs.Common.{◌≡◌, ◌++◌, length, replicate, arith, sym, ap, length-append}
use Rattle.std.proofs.lemmas.Bool.Decides.{Decides-eqb}
use Rattle.std.specs.Vec.{vec_len}
use Rattle.termwiz_line.specs.PlainCells.{plain_cells}
use Rattle.termwiz_line.proofs.PlainCells.{plain_more}
use Rattle.termwiz_line.proofs.cellcluster.byte_cells.ByteCells.push.Goals as goal

more : (c : goal.After-self-1) → plain_cells c.self.inside.plain.start c.in-Some.end ++ c.self.inside.others.items ≡ c.args.self.now ++ replicate c.args.count (c.args.index, c.args.width)
more c =
    let e = c.in-Some.ensures.end in
    let none : vec_len c.self.inside.others ≡ 0 = (Decides-eqb (vec_len c.self.inside.others) 0).0 (sym c.if-is_empty.ensures) in
    rw (e.3, ← c.self.view_is) (plain_more c.self.inside.plain.start c.self.inside.plain.end c.args.count c.args.index c.args.width c.self.inside.others.items c.self.invariant (omega (arith, none, c.self.inside.others.ok.0)) e.0 e.1 e.2)

pub returns-in-Some-clause-ok : goal.returns-in-Some-clause-ok
returns-in-Some-clause-ok c = more c

pub returns-in-Some-clause-grows : goal.returns-in-Some-clause-grows
returns-in-Some-clause-grows c = omega (arith, ap length (more c), length-append c.args.self.now (replicate c.args.count (c.args.index, c.args.width)))

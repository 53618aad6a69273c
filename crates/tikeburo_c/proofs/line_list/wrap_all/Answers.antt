use Rattle.std.proofs.Common.{◌≡◌, ◌+◌, ◌<◌, List, [], ◌∷◌, ◌++◌, length, take, sym, ap, ◌∙◌, subst, arith}
use Rattle.std.proofs.lemmas.List.{take_more}
use Rattle.termwiz_line.specs.LineValue.{LineValue}
use Rattle.tikeburo_c.specs.LineLists.{AreWrapped}
use Rattle.tikeburo_c.proofs.LinesWrapped.{wrapped_more}
use Rattle.tikeburo_c.proofs.line_list.wrap_all.Goals as goal

pub loop-i-preserved : goal.loop-i-preserved
loop-i-preserved c =
    let l = c.loop-i in
    let xs = c.args.lines.now.items in
    let x = c.in_ok-copy.copy in
    let width = c.args.width in
    let inside : l.i < length xs = omega (arith, c.loop-i-test.true, c.args.lines.now.ok.0) in
    let cut : take (l.i + 1) xs ≡ take l.i xs ++ x ∷ [] = take_more xs l.i c.index.result.now inside ∙ ap (λ (y : LineValue). take l.i xs ++ y ∷ []) (sym c.index.ensures ∙ sym c.in_ok-copy.ensures.cases) in
    let more = wrapped_more width (take l.i xs) x l.wrapped.items c.in_ok-pieces.pieces.items l.invariant c.in_ok-pieces.ensures.ok c.in_ok-pieces.ensures.fits in
    subst (λ (ls : List LineValue). AreWrapped width ls c.append.new.self.items) (sym cut) (subst (AreWrapped width (take l.i xs ++ x ∷ [])) (sym c.in_ok-append.ensures.items) more)

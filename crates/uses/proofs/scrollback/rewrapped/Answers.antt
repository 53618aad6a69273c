use Rattle.std.proofs.Common.{◌∙◌, ap}
use Rattle.termwiz_surface.specs.{line_contents}
use Rattle.uses.proofs.scrollback.rewrapped.Goals as goal

pub returns : goal.returns
returns c of_line wrapped =
    let made = c.compress_for_scrollback.ensures in
    c.cut_laws.ensures.alike c.args.width c.args.seqno c.compress_for_scrollback.new.self c.args.line.now _ of_line
    ((λ i. record { cells = made.cells i; seqno = made.number i; flags = made.flags i }) ∙ ap line_contents c.in_ok-stored.ensures.cases)
    c.in_ok-rows.ensures.ok wrapped

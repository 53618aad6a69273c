use Rattle.std.proofs.Common.{◌∙◌, ap, map}
use Rattle.termwiz_screen.specs.Resized.{in_width}
use Rattle.termwiz_screen.proofs.RowChanges.Grown.{all_cut, cut-grown}
use Rattle.termwiz_screen.proofs.rows.resizing.fit_each.Goals as goal

pub cut_rows-requires : goal.cut_rows-requires
cut_rows-requires c = all_cut c.args.width c.args.rows.now c.grow_rows.new.rows c.in_ok-grow_rows.ensures.ok

pub returns-clause-ok : goal.returns-clause-ok
returns-clause-ok c = c.cut_rows.ensures ∙ ap (map (in_width c.args.width)) c.in_ok-grow_rows.ensures.ok ∙ cut-grown c.args.width c.args.rows.now

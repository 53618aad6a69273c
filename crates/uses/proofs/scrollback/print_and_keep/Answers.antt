use Rattle.std.proofs.Common.{refl}
use Rattle.termwiz_surface.specs.{kept_of, measure, rows_scrolled_off, screen_of}
use Rattle.uses.specs.Scrollback.{printed_text}
use Rattle.uses.proofs.KeptLines.{counted}
use Rattle.uses.proofs.scrollback.print_and_keep.Goals as goal

pub returns-clause-count : goal.returns-clause-count
returns-clause-count g c = counted c.args.surface.now.width (rows_scrolled_off (measure g.W.Widths.width_of c.args.surface.now.widths) (screen_of c.args.surface.now) (kept_of c.args.surface.now) (printed_text c.args.output.now)) c.args.kept.now.lines.items c.add.new.lines.lines.items c.add.result (c.add.ensures.scrolled refl)

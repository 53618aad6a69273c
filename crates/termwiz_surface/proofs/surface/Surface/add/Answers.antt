use Rattle.std.proofs.Common.{◌≡◌, ◌+◌, ◌-◌, ap, length, sym, ◌∙◌, arith}
use Rattle.termwiz_cell.specs.Measure.{measure}
use Rattle.termwiz_screen.specs.Log.{next_number}
use Rattle.termwiz_surface.specs.ChangeLists.{MakesList, change_list}
use Rattle.termwiz_surface.specs.Surface.{SurfaceValue}
use Rattle.termwiz_surface.proofs.ChangeLists.{adds-made, list-log, list-unknown, preserves-list}
use Rattle.termwiz_surface.proofs.Preserving.{preserves-unmade}
use Rattle.termwiz_surface.proofs.ScrolledOff.{when-err}
use Rattle.termwiz_surface.proofs.Unlogged.{on-ok}
use Rattle.termwiz_surface.proofs.surface.Surface.add.Given as given
use Rattle.termwiz_surface.proofs.surface.Surface.add.Goals as goal

module _ (g : given.Over) (c : goal.Else-is_err g) where
  -- the changes were made
  made : MakesList (measure g.W.Widths.width_of c.args.self.now.widths) c.args.self.now c.args.list c.make.new.self
  made = on-ok c.make.result (sym c.is_err.ensures.value ∙ c.if-is_err.false) c.make.ensures.ok

pub returns-clause-adds : goal.returns-clause-adds
returns-clause-adds g c =
    let number : c.number_for-number.result ≡ next_number c.args.self.now.log - 1 + length (change_list c.args.list) = omega (arith, c.number_for-number.ensures, c.len.ensures, c.next_number.ensures, ap (λ (v : SurfaceValue _). next_number v.log) c.self.view_is) in
    adds-made (measure g.W.Widths.width_of c.args.self.now.widths) c.args.self.now c.make.new.self c.args.list _ _ c.in_ok-refuse.ensures.0 c.in_ok-refuse.ensures.1 number (made g c)

pub returns-then-is_err-clause-scrolled : goal.returns-then-is_err-clause-scrolled
returns-then-is_err-clause-scrolled g c = when-err c.make.result (sym c.is_err.ensures.value ∙ c.if-is_err.true) c.make.ensures.kept

pub returns-clause-scrolled : goal.returns-clause-scrolled
returns-clause-scrolled g c = on-ok c.make.result (sym c.is_err.ensures.value ∙ c.if-is_err.false) c.make.ensures.scrolls

pub returns-then-is_err-clause-preserves : goal.returns-then-is_err-clause-preserves
returns-then-is_err-clause-preserves g c =
    preserves-unmade (measure g.W.Widths.width_of) c.args.self.now c.make.new.self _ c.make.result (sym c.is_err.ensures.value ∙ c.if-is_err.true) c.make.ensures.err c.restart.ensures.frame c.restart.ensures.numbered

pub returns-clause-preserves : goal.returns-clause-preserves
returns-clause-preserves g c = preserves-list (measure g.W.Widths.width_of) c.args.self.now c.make.new.self c.args.list c.make.ensures.none (made g c)

pub returns-clause-unlogged : goal.returns-clause-unlogged
returns-clause-unlogged g c = list-log (measure g.W.Widths.width_of c.args.self.now.widths) c.args.self.now c.make.new.self c.args.list (made g c)

pub returns-clause-repaints : goal.returns-clause-repaints
returns-clause-repaints g c = list-unknown (measure g.W.Widths.width_of c.args.self.now.widths) c.args.self.now c.make.new.self c.args.list (made g c)

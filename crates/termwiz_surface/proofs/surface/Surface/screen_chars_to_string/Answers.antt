use Rattle.std.proofs.Common.{◌∙◌, arith}
use Rattle.std.proofs.lemmas.Result.{IfOk-weaker}
use Rattle.termwiz_screen.specs.ScreenValue.{cells_of}
use Rattle.termwiz_screen.proofs.ShownTexts.{chars_shown}
use Rattle.termwiz_surface.proofs.surface.Surface.screen_chars_to_string.Goals as goal

pub returns : goal.returns
returns g c =
    rw (← c.self.view_is)
    (IfOk-weaker c.chars_of.result _ _
    (λ text e. e ∙ chars_shown c.self.inside.width (cells_of c.self.inside.rows.items) (λ j l. (c.self.invariant.0.stored_so j (omega (arith, c.self.invariant.0.full))).within))
    c.chars_of.ensures)

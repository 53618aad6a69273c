use Rattle.termwiz_cell.specs.Measure.{measure}
use Rattle.termwiz_surface.proofs.ScheduleLaws.{followed_leads_on, followed_full_leads_on, lack_numbers, lack_memory, broken_leaves_form}
use Rattle.termwiz_surface.proofs.laws.schedule_laws.Goals as goal

pub returns : goal.returns
returns g c =
    let f = λ (widths : _). measure g.W.Widths.width_of widths in
    record { followed = followed_leads_on f; followed_fully = followed_full_leads_on f; numbers = lack_numbers f; memory = lack_memory f; broken = broken_leaves_form _ }

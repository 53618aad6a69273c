use Rattle.termwiz_screen.specs.Picture.{screens}
use Rattle.termwiz_surface.proofs.Following.{Leads-same, Leads-appended, Leads-flushed, Leads-restarted, Leads-stream}
use Rattle.termwiz_surface.proofs.laws.following_laws.Goals as goal

pub returns : goal.returns
returns c = record { same = Leads-same screens; changes = Leads-appended screens; streams = Leads-stream screens; flushes = Leads-flushed screens; restarts = Leads-restarted screens }

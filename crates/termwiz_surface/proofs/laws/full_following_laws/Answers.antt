use Rattle.termwiz_screen.specs.Picture.{full_screens}
use Rattle.termwiz_surface.proofs.Following.{Leads-same, Leads-appended, Leads-flushed, Leads-restarted, Leads-stream}
use Rattle.termwiz_surface.proofs.laws.full_following_laws.Goals as goal

pub returns : goal.returns
returns c = record { same = Leads-same full_screens; changes = Leads-appended full_screens; streams = Leads-stream full_screens; flushes = Leads-flushed full_screens; restarts = Leads-restarted full_screens }

use Rattle.termwiz_screen.specs.Picture.{full_screens}
use Rattle.termwiz_surface.proofs.Remembering.{past-first, past-names, past-leads, past-changes, past-flushed, past-restarted, names-stay, answers-stay, given-carries, carried-leads, full_screens_keep}
use Rattle.termwiz_surface.proofs.laws.full_history_laws.Goals as goal

pub returns : goal.returns
returns c = record {
  first = past-first full_screens;
  number = past-names full_screens;
  led = past-leads full_screens;
  changes = λ f. past-changes full_screens f (full_screens_keep f);
  flushes = past-flushed full_screens;
  restarts = past-restarted full_screens;
  names = names-stay;
  answers = answers-stay full_screens;
  given = given-carries full_screens;
  carried = carried-leads full_screens;
}

use Rattle.termwiz_screen.specs.Picture.{screens}
use Rattle.termwiz_surface.proofs.Remembering.{past-first, past-names, past-leads, past-changes, past-flushed, past-restarted, names-stay, answers-stay, given-carries, carried-leads, screens_keep}
use Rattle.termwiz_surface.proofs.laws.history_laws.Goals as goal

pub returns : goal.returns
returns c = record {
  first = past-first screens;
  number = past-names screens;
  led = past-leads screens;
  changes = λ f. past-changes screens f (screens_keep f);
  flushes = past-flushed screens;
  restarts = past-restarted screens;
  names = names-stay;
  answers = answers-stay screens;
  given = given-carries screens;
  carried = carried-leads screens;
}

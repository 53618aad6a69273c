use Rattle.termwiz_surface.proofs.ScrolledOff.{off-none}
use Rattle.termwiz_surface.proofs.surface.Surface.apply.Goals as goal

pub returns-in-Text-change-clause-ok : goal.returns-in-Text-change-clause-ok
returns-in-Text-change-clause-ok g c = rw (c.in-Whole.is, c.in-Text-change.is) (rw c.as_str.ensures.value at c.print_text-in-Text-change.ensures.ok)

pub returns-in-Text-change-clause-scrolls : goal.returns-in-Text-change-clause-scrolls
returns-in-Text-change-clause-scrolls g c = rw (c.in-Whole.is, c.in-Text-change.is) (rw c.as_str.ensures.value at c.print_text-in-Text-change.ensures.scrolls)

pub returns-in-Text-change-clause-kept : goal.returns-in-Text-change-clause-kept
returns-in-Text-change-clause-kept g c = rw (c.in-Whole.is, c.in-Text-change.is) (rw c.as_str.ensures.value at c.print_text-in-Text-change.ensures.kept)

pub returns-in_ok-self-inside-in-AllAttributes-clause-scrolls : goal.returns-in_ok-self-inside-in-AllAttributes-clause-scrolls
returns-in_ok-self-inside-in-AllAttributes-clause-scrolls g c = λ on. rw (c.in-Whole.is, c.in-AllAttributes.is) (off-none _ _)

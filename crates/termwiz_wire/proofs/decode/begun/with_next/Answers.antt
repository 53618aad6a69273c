use Rattle.std.proofs.Common.{◌≡◌, Option, Some, refl, subst, ap, ◌∙◌}
use Rattle.std.specs.Prelude.{IfSome, option_map}
use Rattle.termwiz_wire.specs.Resuming.{IsChangePart, LeadsOn, change_part}
use Rattle.termwiz_wire.specs.declared.decode.begun.BegunChange.{BegunChange}
use Rattle.termwiz_wire.specs.declared.decode.begun.BegunChange.TheVariants.{Link, Text}
use Rattle.termwiz_wire.proofs.decode.begun.with_next.Goals as goal

abbrev some : BegunChange → Option BegunChange
some change = Some change

pub with_link-requires-clause-link : goal.with_link-requires-clause-link
with_link-requires-clause-link c =
    let is : c.args.begun.next ≡ some (Link c.in-Link.link) = c.in-Some.is ∙ ap some c.in-Link.is in
    subst (λ (o : Option BegunChange). IfSome (option_map change_part o) (IsChangePart c.args.begun.taken)) is c.requires.next

pub with_text-requires-clause-within : goal.with_text-requires-clause-within
with_text-requires-clause-within c =
    let is : c.args.begun.next ≡ some (Text c.in-Text.text) = c.in-Some.is ∙ ap some c.in-Text.is in
    subst (λ (o : Option BegunChange). IfSome (option_map change_part o) (IsChangePart c.args.begun.taken)) is c.requires.next

pub returns-in-None : goal.returns-in-None
returns-in-None c = λ measure leads. (subst (λ (o : Option BegunChange). LeadsOn measure c.args.limits (record c.args.begun { next = o }) c.args.bytes.now) c.in-None.is leads, refl)

pub returns-in-Link : goal.returns-in-Link
returns-in-Link c = λ measure leads.
    let is : c.args.begun.next ≡ some (Link c.in-Link.link) = c.in-Some.is ∙ ap some c.in-Link.is in
    c.with_link.ensures measure (subst (λ (o : Option BegunChange). LeadsOn measure c.args.limits (record c.args.begun { next = o }) c.args.bytes.now) is leads)

pub returns-in-Text : goal.returns-in-Text
returns-in-Text c = λ measure leads.
    let is : c.args.begun.next ≡ some (Text c.in-Text.text) = c.in-Some.is ∙ ap some c.in-Text.is in
    c.with_text.ensures measure (subst (λ (o : Option BegunChange). LeadsOn measure c.args.limits (record c.args.begun { next = o }) c.args.bytes.now) is leads)

use Rattle.std.proofs.Common.{Result, Ok, Err, ap, inl, refl, subst, ◌∙◌}
use Rattle.std.specs.Prelude.{IfErr}
use Rattle.termwiz_cell.specs.Measure.{measure}
use Rattle.termwiz_share.specs.{ClientValue}
use Rattle.termwiz_share.specs.declared.error.ClientError.TheVariants as errors
use Rattle.termwiz_surface.specs.{SurfaceValue, change_value}
use Rattle.uses.specs.Streams.{FailsToShow, FeedsBoth, HasNoFault, blank_client}
use Rattle.uses.specs.declared.serving.ShareError.TheVariants.{Unserved}
use Rattle.uses.proofs.Returned.{returned}
use Rattle.uses.proofs.TwoSources.{shows_second, no_fault}
use Rattle.uses.proofs.two_sources.show_both.Goals as goal

pub returns-clause-shows : goal.returns-clause-shows
returns-clause-shows g c = λ past second_past is_past is_other.
    let f = measure g.W.Widths.width_of in
    let first = c.args.first.now in
    let second = c.args.second.now in
    let later = c.feed_both.new.first in
    let other = c.feed_both.new.second in
    let change = change_value c.args.change in
    let blank = c.in_ok-client.ensures.blank ∙ ap blank_client (c.widths.ensures ∙ ap (λ (s : SurfaceValue _). s.widths) c.surface.ensures.value) in
    shows_second f first second later other change c.args.cut c.requires.apart c.requires.one_measure past second_past is_past is_other (Ok tt) c.feed_both.new.client
    (subst (λ (v : ClientValue _). FeedsBoth f first second change c.args.cut v (Ok tt) later other c.feed_both.new.client) blank c.in_ok-feed_both.ensures.feeds)

pub returns-in_err-feed_both-clause-no_fault : goal.returns-in_err-feed_both-clause-no_fault
returns-in_err-feed_both-clause-no_fault g c = λ past second_past is_past is_other.
    let f = measure g.W.Widths.width_of in
    let first = c.args.first.now in
    let second = c.args.second.now in
    let later = c.feed_both.new.first in
    let other = c.feed_both.new.second in
    let change = change_value c.args.change in
    let e = c.in_err-feed_both.field-0.0 in
    let blank = c.in_ok-client.ensures.blank ∙ ap blank_client (c.widths.ensures ∙ ap (λ (s : SurfaceValue _). s.widths) c.surface.ensures.value) in
    returned (λ (r : Result (ClientValue _) _). IfErr r (λ error. HasNoFault error)) e c.from_residual-in_err-feed_both.result c.from_residual-in_err-feed_both.ensures.1
    (no_fault f first second later other change c.args.cut c.requires.apart c.requires.one_measure past second_past is_past is_other e c.feed_both.new.client
    (subst (λ (v : ClientValue _). FeedsBoth f first second change c.args.cut v (Err e) later other c.feed_both.new.client) blank c.in_err-feed_both.ensures.feeds))

pub returns-in_err-feed_both-clause-fails : goal.returns-in_err-feed_both-clause-fails
returns-in_err-feed_both-clause-fails g c =
    let f = measure g.W.Widths.width_of in
    let first = c.args.first.now in
    let second = c.args.second.now in
    let later = c.feed_both.new.first in
    let other = c.feed_both.new.second in
    let change = change_value c.args.change in
    let e = c.in_err-feed_both.field-0.0 in
    let blank = c.in_ok-client.ensures.blank ∙ ap blank_client (c.widths.ensures ∙ ap (λ (s : SurfaceValue _). s.widths) c.surface.ensures.value) in
    returned (λ (r : Result (ClientValue _) _). IfErr r (λ error. FailsToShow f first second change c.args.cut error later other)) e c.from_residual-in_err-feed_both.result c.from_residual-in_err-feed_both.ensures.1
    (c.feed_both.new.client, subst (λ (v : ClientValue _). FeedsBoth f first second change c.args.cut v (Err e) later other c.feed_both.new.client) blank c.in_err-feed_both.ensures.feeds)

pub returns-clause-made : goal.returns-clause-made
returns-clause-made g c = c.in_ok-feed_both.ensures.feeds.answered.answers.made

pub returns-in_err-client-clause-fails : goal.returns-in_err-client-clause-fails
returns-in_err-client-clause-fails g c =
    let first = c.args.first.now in
    let second = c.args.second.now in
    returned (λ (r : Result (ClientValue _) _). IfErr r (λ error. FailsToShow (measure g.W.Widths.width_of) first second (change_value c.args.change) c.args.cut error first second)) (Unserved errors.Memory) c.from_residual.result c.from_residual.ensures.1
    (blank_client first.surface.widths, inl (refl, inl refl))

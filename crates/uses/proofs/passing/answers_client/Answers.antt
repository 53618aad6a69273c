use Rattle.std.proofs.Common.{◌<◌, ◌^◌, length, sym, subst, rules}
use Rattle.termwiz_share.specs.{IsResponse, ask_of}
use Rattle.termwiz_surface.specs.{measure}
use Rattle.termwiz_wire.specs.declared.sent.Ask.{Ask}
use Rattle.uses.proofs.Passed.{Leads, answers_too, leads_own, no_fault}
use Rattle.uses.proofs.passing.answers_client.Goals as goal

pub returns-in-Ok-clause-answers : goal.returns-in-Ok-clause-answers
returns-in-Ok-clause-answers g c = λ source ask is leads.
    let lt : length c.args.response.now < 2 ^ 64 = search rules in
    subst (λ (a : Ask). IsResponse (measure g.W.Widths.width_of) source a c.args.response.now) c.ask.ensures.value
    (answers_too (measure g.W.Widths.width_of) source c.args.response.now c.decode_head.result lt c.decode_head.ensures.again ask c.ask.result c.in-Ok.head is c.in-Ok.is (c.leads_on.ensures.0 leads))

pub returns-in-Ok-clause-own : goal.returns-in-Ok-clause-own
returns-in-Ok-clause-own g c = λ source is.
    let lt : length c.args.response.now < 2 ^ 64 = search rules in
    c.leads_on.ensures.1 (subst (λ (a : Ask). Leads c.in-Ok.head a) (sym c.ask.ensures.value)
    (leads_own (measure g.W.Widths.width_of) source c.args.response.now c.decode_head.result lt c.decode_head.ensures.again (ask_of c.args.client.now) c.in-Ok.head is c.in-Ok.is))

pub returns-in-Err-clause-own : goal.returns-in-Err-clause-own
returns-in-Err-clause-own g c = λ source is.
    let lt : length c.args.response.now < 2 ^ 64 = search rules in
    absurd (no_fault (measure g.W.Widths.width_of) source c.args.response.now c.decode_head.result lt c.decode_head.ensures.again (ask_of c.args.client.now) c.in-Err.field-0 is c.in-Err.is)

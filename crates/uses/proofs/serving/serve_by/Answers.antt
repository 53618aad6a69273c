use Rattle.std.proofs.Common.{ap, take}
use Rattle.termwiz_cell.specs.Measure.{measure}
use Rattle.termwiz_share.specs.{ask_of}
use Rattle.uses.proofs.Served.{answers, once_shows}
use Rattle.uses.proofs.serving.serve_by.Goals as goal

pub returns-clause-once : goal.returns-clause-once
returns-clause-once g c =
    let f = measure g.W.Widths.width_of in
    let s = c.write_response.new.source in
    let client = c.args.client.now in
    let served = c.in_ok-len.ensures.preserves.clients client c.requires.serves in
    let given = answers f s (ask_of client) c.ask.result _ _ c.ask.ensures.value (ap (take c.in_ok-len.len) c.deref.ensures.value) c.in_ok-len.ensures.response in
    (c.show.ensures s served c.requires.ready given).once

pub returns-clause-shows : goal.returns-clause-shows
returns-clause-shows g c = once_shows (measure g.W.Widths.width_of) c.write_response.new.source c.args.client.now c.show.result c.show.new.client (returns-clause-once g c)

pub returns-clause-serves : goal.returns-clause-serves
returns-clause-serves g c =
    let f = measure g.W.Widths.width_of in
    let s = c.write_response.new.source in
    let client = c.args.client.now in
    let served = c.in_ok-len.ensures.preserves.clients client c.requires.serves in
    let given = answers f s (ask_of client) c.ask.result _ _ c.ask.ensures.value (ap (take c.in_ok-len.len) c.deref.ensures.value) c.in_ok-len.ensures.response in
    (c.show.ensures s served c.requires.ready given).serves

pub returns-clause-ready : goal.returns-clause-ready
returns-clause-ready g c =
    let f = measure g.W.Widths.width_of in
    let s = c.write_response.new.source in
    let client = c.args.client.now in
    let served = c.in_ok-len.ensures.preserves.clients client c.requires.serves in
    let given = answers f s (ask_of client) c.ask.result _ _ c.ask.ensures.value (ap (take c.in_ok-len.len) c.deref.ensures.value) c.in_ok-len.ensures.response in
    (c.show.ensures s served c.requires.ready given).ready

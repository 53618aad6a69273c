use Rattle.std.proofs.Common.{◌≡◌, ◌-◌, ◌^◌, true, false, [], min, subst}
use Rattle.std.specs.Prelude.{None}
use Rattle.termwiz_cell.specs.Measure.{measure}
use Rattle.termwiz_share.specs.Responses.{delta_part}
use Rattle.termwiz_share.specs.Source.{PutsDelta, SourceValue, most_bytes, repaint_answer, source_of}
use Rattle.termwiz_share.proofs.Answering.{answers_delta, answers_repaint}
use Rattle.termwiz_share.proofs.responses.Responses.prepare.Goals as goal
use Rattle.termwiz_surface.specs.Answer.{delta_of}

pub returns-then-branch-clause-answers : goal.returns-then-branch-clause-answers
returns-then-branch-clause-answers g c =
    let f = measure g.W.Widths.width_of in
    let s : SourceValue _ = source_of c.args.number c.args.surface.now in
    let most : c.most_bytes.result ≡ min (most_bytes s.surface.width s.surface.height) (2 ^ 64 - 1) = rw (c.dimensions-width.ensures.width, c.dimensions-width.ensures.height) at c.most_bytes.ensures in
    let puts : PutsDelta f s c.args.from c.most_bytes.result [] true (delta_part c.prepare_delta.new.self true) =
    subst (λ b. PutsDelta f s c.args.from c.most_bytes.result [] b (delta_part c.prepare_delta.new.self b)) c.if-branch.true c.in_ok-prepare_delta.ensures.puts in
    record {
      given = delta_of s.surface c.args.from;
      answers = answers_delta f s c.args.from c.dimensions-width.ensures.fully_sized [] _ c.most_bytes.result most puts;
      put = puts.4;
      form = puts.3;
    }

pub returns-clause-answers : goal.returns-clause-answers
returns-clause-answers g c =
    let f = measure g.W.Widths.width_of in
    let s : SourceValue _ = source_of c.args.number c.args.surface.now in
    let most : c.most_bytes.result ≡ min (most_bytes s.surface.width s.surface.height) (2 ^ 64 - 1) = rw (c.dimensions-width.ensures.width, c.dimensions-width.ensures.height) at c.most_bytes.ensures in
    let puts : PutsDelta f s c.args.from c.most_bytes.result [] false (delta_part c.prepare_delta.new.self false) =
    subst (λ b. PutsDelta f s c.args.from c.most_bytes.result [] b (delta_part c.prepare_delta.new.self b)) c.if-branch.false c.in_ok-prepare_delta.ensures.puts in
    record {
      given = repaint_answer s.surface;
      answers = answers_repaint f s c.args.from c.dimensions-width.ensures.fully_sized [] _ c.most_bytes.result most puts c.requires.full c.dimensions-width.ensures.sound (g.met.W.Widths.space_has_one s.surface.widths None) c.dimensions-width.ensures.printable;
      put = c.in_ok-prepare_repaint.ensures.put;
      form = c.in_ok-prepare_repaint.ensures.form;
    }

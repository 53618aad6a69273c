use Rattle.std.proofs.Common.{◌≡◌, ◌∙◌, pos, length, take, sym, ap, subst, arith, inl, inr}
use Rattle.std.proofs.lemmas.Int.{ints}
use Rattle.std.specs.Prelude.{Option}
use Rattle.tikeburo_c.proofs.Delivered.{Asked, IsReadyIn, asked, asks_by, done_by, ready_reset, responded, serves_answered, serves_fed, serves_reset, shows_fed}
use Rattle.tikeburo_c.proofs.Brought.{answer_ends, answered_same, ask_ends, feed_ends, reset_done, shows_itself}
use Rattle.tikeburo_c.specs.Handles.{handle_value}
use Rattle.tikeburo_c.specs.Outcomes.{status_of}
use Rattle.tikeburo_c.specs.Streams.{MayCarry, ServesIn}
use Rattle.tikeburo_c.specs.declared.kept.Kept.{Kept}
use Rattle.tikeburo_c.proofs.carried.carry.Goals as goal

pub returns-then-answered-ne0-clause-serves : goal.returns-then-answered-ne0-clause-serves
returns-then-answered-ne0-clause-serves c serves =
    let reset = c.tk_client_reset-reset in
    let ask = c.tk_client_ask-asked in
    let answer = c.tk_respond-answered in
    let surface = handle_value c.args.surface.now in
    let served = serves_reset surface (handle_value c.args.client.now) (handle_value reset.new.handle) reset.ensures.0 serves reset.ensures.2 in
    let still = subst (λ (k : Option Kept). ServesIn surface k) (sym ask.ensures.same) served in
    serves_answered _ surface (handle_value ask.new.handle) (handle_value answer.new.handle) (c.args.room.now, 0) (answer.new.room, answer.new.len) answer.ensures.0 still answer.ensures.2

pub returns-clause-serves : goal.returns-clause-serves
returns-clause-serves c serves =
    let reset = c.tk_client_reset-reset in
    let ask = c.tk_client_ask-asked in
    let answer = c.tk_respond-answered in
    let fed = c.tk_client_feed in
    let surface = handle_value c.args.surface.now in
    let served = serves_reset surface (handle_value c.args.client.now) (handle_value reset.new.handle) reset.ensures.0 serves reset.ensures.2 in
    let still = subst (λ (k : Option Kept). ServesIn surface k) (sym ask.ensures.same) served in
    let after = serves_answered _ surface (handle_value ask.new.handle) (handle_value answer.new.handle) (c.args.room.now, 0) (answer.new.room, answer.new.len) answer.ensures.0 still answer.ensures.2 in
    let ready = subst IsReadyIn (sym ask.ensures.same) (ready_reset surface (handle_value c.args.client.now) (handle_value reset.new.handle) reset.ensures.0 serves reset.ensures.2) in
    let given : ask.result ≡ pos 0 = omega (arith, ints) in
    let answered : answer.result ≡ pos 0 = omega (arith, ints) in
    let asks = asked (handle_value reset.new.handle) _ (ask.new.room, ask.new.len) (done_by ask.result _ ask.ensures.read given) in
    let asks_still = subst (λ (k : Option Kept). Asked (asks_by k) (take ask.new.len ask.new.room)) (sym ask.ensures.same) asks in
    let responds = responded _ surface (handle_value ask.new.handle) (handle_value answer.new.handle) (c.args.room.now, 0) (answer.new.room, answer.new.len) still asks_still (done_by answer.result _ answer.ensures answered) in
    serves_fed _ (handle_value answer.new.handle) (handle_value ask.new.handle) (handle_value fed.new.handle) (0, c.args.fault.now) (fed.new.taken, fed.new.fault) fed.ensures.0 after ready responds fed.ensures.2

pub returns-clause-shows : goal.returns-clause-shows
returns-clause-shows c serves done =
    let reset = c.tk_client_reset-reset in
    let ask = c.tk_client_ask-asked in
    let answer = c.tk_respond-answered in
    let fed = c.tk_client_feed in
    let surface = handle_value c.args.surface.now in
    let served = serves_reset surface (handle_value c.args.client.now) (handle_value reset.new.handle) reset.ensures.0 serves reset.ensures.2 in
    let still = subst (λ (k : Option Kept). ServesIn surface k) (sym ask.ensures.same) served in
    let after = serves_answered _ surface (handle_value ask.new.handle) (handle_value answer.new.handle) (c.args.room.now, 0) (answer.new.room, answer.new.len) answer.ensures.0 still answer.ensures.2 in
    let ready = subst IsReadyIn (sym ask.ensures.same) (ready_reset surface (handle_value c.args.client.now) (handle_value reset.new.handle) reset.ensures.0 serves reset.ensures.2) in
    let given : ask.result ≡ pos 0 = omega (arith, ints) in
    let answered : answer.result ≡ pos 0 = omega (arith, ints) in
    let taken : fed.result ≡ pos 0 = omega (arith, ints) in
    let asks = asked (handle_value reset.new.handle) _ (ask.new.room, ask.new.len) (done_by ask.result _ ask.ensures.read given) in
    let asks_still = subst (λ (k : Option Kept). Asked (asks_by k) (take ask.new.len ask.new.room)) (sym ask.ensures.same) asks in
    let responds = responded _ surface (handle_value ask.new.handle) (handle_value answer.new.handle) (c.args.room.now, 0) (answer.new.room, answer.new.len) still asks_still (done_by answer.result _ answer.ensures answered) in
    shows_fed _ (handle_value answer.new.handle) (handle_value ask.new.handle) (handle_value fed.new.handle) (0, c.args.fault.now) (fed.new.taken, fed.new.fault) after ready responds (done_by fed.result _ fed.ensures taken)

-- ---- why it fails

pub returns-then-reset-ne0-clause-fails : goal.returns-then-reset-ne0-clause-fails
returns-then-reset-ne0-clause-fails c serves =
    let reset = c.tk_client_reset-reset in
    let zero : reset.result ≡ pos 0 = reset.ensures.1 ∙ ap status_of (reset_done (handle_value c.args.surface.now) (handle_value c.args.client.now) (handle_value reset.new.handle) reset.ensures.0 serves reset.ensures.2) in
    absurd (omega (arith, ints, zero))

pub returns-then-asked-ne0-clause-fails : goal.returns-then-asked-ne0-clause-fails
returns-then-asked-ne0-clause-fails c serves =
    let reset = c.tk_client_reset-reset in
    let ask = c.tk_client_ask-asked in
    let surface = handle_value c.args.surface.now in
    let ready = ready_reset surface (handle_value c.args.client.now) (handle_value reset.new.handle) reset.ensures.0 serves reset.ensures.2 in
    elim (ask_ends (handle_value reset.new.handle) _ (ask.new.room, ask.new.len) ask.ensures.read.0 ready ask.ensures.read.2 (omega arith)) [
      | inl done ↦ (let zero : ask.result ≡ pos 0 = ask.ensures.read.1 ∙ ap status_of done in absurd (omega (arith, ints, zero)))
      | inr memory ↦ (ask.ensures.read.0, omega (arith, ints, ask.ensures.read.1), subst (MayCarry surface (handle_value ask.new.handle) (length c.args.room.now)) (sym memory) tt)
    ]

pub returns-then-answered-ne0-clause-fails : goal.returns-then-answered-ne0-clause-fails
returns-then-answered-ne0-clause-fails c serves =
    let reset = c.tk_client_reset-reset in
    let ask = c.tk_client_ask-asked in
    let answer = c.tk_respond-answered in
    let surface = handle_value c.args.surface.now in
    let served = serves_reset surface (handle_value c.args.client.now) (handle_value reset.new.handle) reset.ensures.0 serves reset.ensures.2 in
    let still = subst (λ (k : Option Kept). ServesIn surface k) (sym ask.ensures.same) served in
    let given : ask.result ≡ pos 0 = omega (arith, ints) in
    let asks = asked (handle_value reset.new.handle) _ (ask.new.room, ask.new.len) (done_by ask.result _ ask.ensures.read given) in
    let asks_still = subst (λ (k : Option Kept). Asked (asks_by k) (take ask.new.len ask.new.room)) (sym ask.ensures.same) asks in
    elim (answer_ends _ surface (handle_value ask.new.handle) (handle_value answer.new.handle) (c.args.room.now, 0) (answer.new.room, answer.new.len) answer.ensures.0 still asks_still answer.ensures.2) [
      | inl done ↦ (let zero : answer.result ≡ pos 0 = answer.ensures.1 ∙ ap status_of done in absurd (omega (arith, ints, zero)))
      | inr may ↦ (answer.ensures.0, omega (arith, ints, answer.ensures.1), may)
    ]

pub returns-clause-fails : goal.returns-clause-fails
returns-clause-fails c serves =
    let reset = c.tk_client_reset-reset in
    let ask = c.tk_client_ask-asked in
    let fed = c.tk_client_feed in
    let ready = subst IsReadyIn (sym ask.ensures.same) (ready_reset (handle_value c.args.surface.now) (handle_value c.args.client.now) (handle_value reset.new.handle) reset.ensures.0 serves reset.ensures.2) in (
      fed.ensures.0,
      omega (arith, ints, fed.ensures.1),
      feed_ends _ (handle_value c.tk_respond-answered.new.handle) (handle_value ask.new.handle) (handle_value fed.new.handle) (length c.args.room.now) (0, c.args.fault.now) (fed.new.taken, fed.new.fault) fed.ensures.0 ready fed.ensures.2,
    )

-- ---- what the surface shows

pub returns-then-reset-ne0-clause-same : goal.returns-then-reset-ne0-clause-same
returns-then-reset-ne0-clause-same c = shows_itself (handle_value c.args.surface.now)

pub returns-then-asked-ne0-clause-same : goal.returns-then-asked-ne0-clause-same
returns-then-asked-ne0-clause-same c = shows_itself (handle_value c.args.surface.now)

pub returns-then-answered-ne0-clause-same : goal.returns-then-answered-ne0-clause-same
returns-then-answered-ne0-clause-same c =
    let answer = c.tk_respond-answered in
    answered_same _ (handle_value c.args.surface.now) (handle_value answer.new.handle) (c.args.room.now, 0) (answer.new.room, answer.new.len) answer.ensures.0 answer.ensures.2

pub returns-clause-same : goal.returns-clause-same
returns-clause-same c =
    let answer = c.tk_respond-answered in
    answered_same _ (handle_value c.args.surface.now) (handle_value answer.new.handle) (c.args.room.now, 0) (answer.new.room, answer.new.len) answer.ensures.0 answer.ensures.2

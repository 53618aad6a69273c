use Rattle.std.proofs.Common.{inr, refl}
use Rattle.uses.proofs.serving.show.Goals as goal

pub returns : goal.returns
returns g c = λ s served ready given.
    let shown = c.in_default.ensures.shows s served ready given in record {
      once = shown.0.picture;
      serves = c.in_default.ensures.serves s served ready given;
      ready = shown.1;
    }

pub returns-in-Err : goal.returns-in-Err
returns-in-Err g c = λ s served ready given. record {
  once = inr (s, refl, record { response = c.args.response.now; is_response = given; mid = c.feed.new.self; fails = c.in-Err.ensures.feeds; renewed = c.reset.ensures.resets });
  serves = c.reset.ensures.serves s (c.in-Err.ensures.serves s served ready given);
  ready = c.reset.ensures.ready;
}

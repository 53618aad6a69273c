use Rattle.std.proofs.Common.{◌≡◌, ◌<◌, ◌≤◌, ◌++◌, List, ℕ, drop, length, ap, inr, refl, rules, subst, ◌∙◌}
use Rattle.termwiz_share.specs.Source.{WritesFront, response_bytes}
use Rattle.tikeburo_c.specs.Widths.{columns_by}
use Rattle.tikeburo_c.proofs.answers.answer.Goals as goal

fits : (bytes old new : List ℕ) (n : ℕ) → n ≤ length old → WritesFront bytes old n new → (length bytes ≤ length old) × (new ≡ bytes ++ drop (length bytes) old) × (n ≡ length bytes)
fits bytes old new n le w = (subst (λ k. k ≤ length old) w.0 le, w.1 le ∙ ap (λ k. bytes ++ drop k old) w.0, w.0)

is_short : (bytes old new : List ℕ) (n : ℕ) → length old < n → WritesFront bytes old n new → (length old < length bytes) × (new ≡ old) × (n ≡ length bytes)
is_short bytes old new n more w = (subst (λ k. length old < k) w.0 more, w.2 more, w.0)

pub returns-then-size-count : goal.returns-then-size-count
returns-then-size-count c =
    inr (record {
      bytes = response_bytes columns_by c.respond_to.new.self c.args.ask;
      response = c.in_ok-size.ensures.response;
      given = refl;
      gives = is_short _ c.args.room.now c.respond_to.new.room _ c.if-size-count.true c.in_ok-size.ensures.written;
      trims = c.in_ok-size.ensures.trims;
      preserves = search rules;
    })

pub returns : goal.returns
returns c =
    inr (record {
      bytes = response_bytes columns_by c.respond_to.new.self c.args.ask;
      response = c.in_ok-size.ensures.response;
      given = refl;
      gives = fits _ c.args.room.now c.respond_to.new.room _ c.if-size-count.false c.in_ok-size.ensures.written;
      trims = c.in_ok-size.ensures.trims;
      preserves = search rules;
    })

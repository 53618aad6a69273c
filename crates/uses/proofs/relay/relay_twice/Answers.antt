use Rattle.std.proofs.Common.{◌≡◌, ◌∙◌, Result, Ok, Err, false, inr, sym}
use Rattle.std.specs.Prelude.{is_ok}
use Rattle.std.proofs.lemmas.Bool.{true≢false}
use Rattle.termwiz_surface.specs.{measure}
use Rattle.termwiz_surface.specs.declared.surface.SurfaceError.{SurfaceError}
use Rattle.uses.specs.Following.{Relays}
use Rattle.uses.proofs.relay.relay_twice.Goals as goal

-- what isn't a success is an error
failed : (P : Result (Unit {0}) SurfaceError → Type 0) (r : Result (Unit {0}) SurfaceError) → is_ok r ≡ false → P r → (e : SurfaceError) × P (Err e)
failed P (Ok u) is p = absurd (true≢false is)
failed P (Err e) is p = (e, p)

pub returns-clause-relays : goal.returns-clause-relays
returns-clause-relays g c =
    let f = measure g.W.Widths.width_of in
    let near = c.relay.new.near in
    let far = c.relay.new.far in
    let first = failed (λ r. Relays f c.args.surface.now c.args.near.now c.args.far.now r near far) c.relay.result (sym c.is_ok.ensures.value ∙ c.if-is_ok.false) c.relay.ensures.relays in
    inr (record { error = first.0; near_mid = near; far_mid = far; first = first.1; second = c.relay-2.ensures.relays })

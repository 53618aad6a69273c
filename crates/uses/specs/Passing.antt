-- What a server passes on to a client.
use Rattle.std.specs.Prelude.{◌≡◌, ℕ, Bool, true, false, List, Result, Ok, Err}
use Rattle.termwiz_share.specs.Client.{ClientValue}
use Rattle.termwiz_share.specs.Feeding.{Feeds}
use Rattle.termwiz_share.specs.declared.error.ClientError.{ClientError}

-- the client is fed the bytes, and fails as it does then; or they aren't for it, and nothing has
-- changed
abbrev pub PassesOn :
    {W : Type 0} → (W → List ℕ → ℕ) → ClientValue W → List ℕ → Result Bool ClientError →
    ClientValue W → Type 0
PassesOn measure_of old bytes (Ok true) new =
    (count : ℕ) × Feeds measure_of old bytes (Ok count) new
PassesOn measure_of old bytes (Ok false) new = new ≡ old
PassesOn measure_of old bytes (Err e) new = Feeds measure_of old bytes (Err e) new

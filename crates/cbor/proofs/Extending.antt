-- Bytes that begin with what they had.
use Rattle.std.proofs.Common.{◌≡◌, List, ℕ, ◌++◌, ap, ◌∙◌, append_assoc}
use Rattle.cbor.specs.Encoding.{BeginsWith}

-- what is appended leaves the front
pub begins_on : (old new front more : List ℕ) → new ≡ old ++ more → BeginsWith old front → BeginsWith new front
begins_on old new front more e b = record { rest = b.rest ++ more; whole = e ∙ ap (λ (t : List ℕ). t ++ more) b.whole ∙ append_assoc front b.rest more }

pub begins_same : (old new front : List ℕ) → new ≡ old → BeginsWith old front → BeginsWith new front
begins_same old new front e b = record { rest = b.rest; whole = e ∙ b.whole }

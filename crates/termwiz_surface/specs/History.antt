-- What the numbers of a surface name: above 0 each number that it had names one picture, since
-- whatever changes the picture takes new numbers. At 0 it may have had many.
use Rattle.std.specs.Prelude.{◌≡◌, ℕ, ◌≤◌, List}
use Rattle.termwiz_surface.specs.Following.{LeadsTo}
use Rattle.termwiz_surface.specs.Surface.{full_of, SurfaceValue}
use Rattle.termwiz_screen.specs.Log.{LogValue, next_number}
use Rattle.termwiz_screen.specs.Picture.{Pictures, screens, full_screens}

-- above 0 number n is that of the picture p
pub record Names {P : Type 0} (past : ℕ → P) (n : ℕ) (p : P) : Type 0 where
  pub named : (n ≡ 0 → ⊥) → past n ≡ p

-- past says which pictures the numbers of a surface name that has the picture p now: from that of
-- each number what is due leads to p
pub record IsPast {P : Type 0} (pictures : Pictures P) (measure : List ℕ → ℕ) (past : ℕ → P) (p : P)
    (log : LogValue) : Type 0 where
  pub leads : (n : ℕ) → n ≤ next_number log → LeadsTo pictures measure (past n) n p log

-- with this picture and log the surface has gone on from number n: what was named up to there is
-- named so still
pub record GoesOn {P : Type 0} (pictures : Pictures P) (measure : List ℕ → ℕ) (past : ℕ → P) (n : ℕ)
    (p : P) (log : LogValue) : Type 0 where
  pub later : ℕ → P
  pub alike : (k : ℕ) → k ≤ n → later k ≡ past k
  pub grows : n ≤ next_number log
  pub is_past : IsPast pictures measure later p log

-- whatever pictures of this kind the old surface's numbers named, they name them still
abbrev pub NamesGoOn :
    {P : Type 0} → Pictures P → {W : Type 0} → (List ℕ → ℕ) → SurfaceValue W → SurfaceValue W →
    Type 0
NamesGoOn {P = P} pictures measure old new =
    (past : ℕ → P) → IsPast pictures measure past (pictures.shown (full_of old)) old.log →
    GoesOn pictures measure past (next_number old.log) (pictures.shown (full_of new)) new.log

-- what the old surface's numbers named, screens and full screens, they name still
pub record KeepsNames {W : Type 0} (measure : List ℕ → ℕ) (old new : SurfaceValue W) : Type 0 where
  pub screen : NamesGoOn screens measure old new
  pub full : NamesGoOn full_screens measure old new

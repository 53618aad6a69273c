-- Answers that are carried off: what brings a viewer, whenever it is accepted, to the picture that
-- the surface had when it gave the answer.
use Rattle.std.specs.Prelude.{◌≡◌, ℕ, ◌<◌, ◌≤◌, ◌^◌, Bool, true, false, not, ◌&&◌, ◌==◌, List}
use Rattle.termwiz_cell.specs.ChangeValue.{ChangeValue}
use Rattle.termwiz_surface.specs.History.{Names}
use Rattle.termwiz_screen.specs.Log.{LogValue, next_number, due, is_known, delta_limit}
use Rattle.termwiz_screen.specs.Picture.{Pictures, played}
use Rattle.termwiz_screen.specs.Step.{regions_fit}
use Rattle.termwiz_surface.specs.Surface.{SurfaceValue}

pub record AnswerValue : Type 0 where
  pub width : ℕ
  pub height : ℕ
  -- the number that a viewer must have to accept it, or 0 where it may have any
  pub base : ℕ
  -- the number that it has then
  pub number : ℕ
  pub changes : List ChangeValue

-- a surface's changes that are due from a number on
abbrev pub delta_of : {W : Type 0} → SurfaceValue W → ℕ → AnswerValue
delta_of s n =
    record {
      width = s.width;
      height = s.height;
      base = n;
      number = next_number s.log;
      changes = due s.log n;
    }

-- what each answer has: a size that a surface may have, a number that is at least its base, and no
-- scroll whose region goes past the last row
pub record IsWellFormed (a : AnswerValue) : Type 0 where
  pub some_column : 0 < a.width
  pub some_row : 0 < a.height
  pub fits : a.width < 2 ^ 32
  pub fits_height : a.height < 2 ^ 32
  pub ordered : a.base ≤ a.number
  pub regions : regions_fit a.height a.changes ≡ true

-- what a surface with this picture and log gives for number n: a copy of what is due where that is
-- known, and else changes that bring any picture of its size to this one
pub record IsGiven {P : Type 0} (pictures : Pictures P) (measure : List ℕ → ℕ) (p : P)
    (log : LogValue) (n : ℕ) (a : AnswerValue) : Type 0 where
  pub width : a.width ≡ (pictures.screen p).width
  pub height : a.height ≡ (pictures.screen p).height
  pub number : a.number ≡ next_number log
  pub delta :
      is_known (delta_limit (pictures.screen p).width (pictures.screen p).height) log n ≡ true →
      (a.base ≡ n) × (a.changes ≡ due log n)
  pub repaint :
      is_known (delta_limit (pictures.screen p).width (pictures.screen p).height) log n ≡ false
      → (a.base ≡ 0) ×
      ((t : P) → pictures.IsSized (pictures.screen p).width (pictures.screen p).height t →
      played pictures measure t a.changes ≡ p)

-- the answer was given when the surface had the picture p: its number names that, and it leads
-- there, a repaint from any picture of its size, a delta from the one that its base names
pub record Carries {P : Type 0} (pictures : Pictures P) (measure : List ℕ → ℕ) (past : ℕ → P)
    (a : AnswerValue) (p : P) : Type 0 where
  pub named : Names past a.number p
  pub repaint :
      a.base ≡ 0 → (t : P) → pictures.IsSized a.width a.height t →
      played pictures measure t a.changes ≡ p
  pub delta :
      (a.base ≡ 0 → ⊥) → (a.base ≤ a.number) × (played pictures measure (past a.base) a.changes ≡ p)

-- the answer brings any picture of its size to the surface's
abbrev pub is_repaint : AnswerValue → Bool
is_repaint a = a.base == 0

-- it is for screens of this size
abbrev pub suits : ℕ → ℕ → AnswerValue → Bool
suits w h a = (w == a.width) && (h == a.height)

-- it is no repaint, and a viewer with number n doesn't have its base
abbrev pub is_stale : ℕ → AnswerValue → Bool
is_stale n a = not (is_repaint a) && not (n == a.base)

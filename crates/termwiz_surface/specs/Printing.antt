-- Printing a part of a text on a surface: some graphemes, or a run of ASCII or of letters.
use Rattle.std.specs.Prelude.{◌≡◌, ℕ, ◌<◌, true, List, ◌++◌, fold, length}
use Rattle.std.specs.Str.{IsUtf8}
use Rattle.unicode_segmentation.specs.Grapheme.{graphemes}
use Rattle.termwiz_screen.specs.Print.{print_one, kept_after}
use Rattle.termwiz_surface.specs.Surface.{SurfaceValue, screen_of, kept_of, Becomes}
use Rattle.termwiz_surface.specs.Touching.{touched_by}

module _ {W : Type 0} where
  -- the graphemes are printed
  abbrev pub PrintsGraphemes :
      (List ℕ → ℕ) → SurfaceValue W → List (List ℕ) → SurfaceValue W → Type 0
  PrintsGraphemes measure old gs new =
      Becomes old (fold (print_one measure) (screen_of old) gs)
      (kept_after measure (screen_of old) (kept_of old) gs)
      (touched_by measure (screen_of old) gs) new

  -- the graphemes that the text begins with are printed, and the rest is left
  pub record PrintsFirst (measure : List ℕ → ℕ) (old : SurfaceValue W) (text rest : List ℕ)
      (new : SurfaceValue W) : Type 0 where
    pub printed : List (List ℕ)
    pub graphemes_are : graphemes true text ≡ printed ++ graphemes true rest
    pub prints : PrintsGraphemes measure old printed new
    pub shrinks : length rest < length text
    pub is_text : IsUtf8 rest

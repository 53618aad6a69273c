-- How surfaces are drawn on others, and regions copied.
use Rattle.std.specs.Prelude.{◌≡◌, ℕ, Result, Err, OnOk, Option, Some, None}
use Rattle.termwiz_screen.specs.Diff.{Region}
use Rattle.termwiz_share.specs.Serving.{PreservesServing}
use Rattle.termwiz_share.specs.Source.{SourceValue, trimmed_surface}
use Rattle.termwiz_surface.specs.{HasCopied, HasDrawn, IsCopied, IsDrawn, SurfaceValue, copied_region, region_at, screen_of}
use Rattle.termwiz_surface.specs.declared.surface.SurfaceError.{SurfaceError}
use Rattle.termwiz_surface.specs.declared.surface.SurfaceError.TheVariants.{ScrollRegion}
use Rattle.tikeburo_c.specs.Kept.{shown_of}
use Rattle.tikeburo_c.specs.Outcomes.{Outcome, changing_failure, outcome_of}
use Rattle.tikeburo_c.specs.Results.{OnSurface, Refused, OfKind}
use Rattle.tikeburo_c.specs.SameWidths.{WhereSame}
use Rattle.tikeburo_c.specs.Widths.{columns_by}
use Rattle.tikeburo_c.specs.declared.failure.Failure.TheVariants.{NoHandle}
use Rattle.tikeburo_c.specs.declared.kept.Kept.{Kept}
use Rattle.tikeburo_c.specs.declared.widths.ChosenWidths.{ChosenWidths}

-- a region of a surface is drawn on another one as the library draws it
pub record DrawsAs (source : SurfaceValue ChosenWidths) (r : Region)
    (old : SourceValue ChosenWidths) (result : Result ℕ SurfaceError)
    (new : SourceValue ChosenWidths) : Type 0 where
  pub drawn : IsDrawn columns_by (trimmed_surface old.surface) source r result new.surface
  -- all but the rows is as before
  pub restores :
      OnOk result
      (screen_of new.surface ≡
      record (screen_of old.surface) { rows = (screen_of new.surface).rows })
  -- its rows are there, where no wide grapheme crosses an edge
  pub region : OnOk result (HasDrawn columns_by old.surface source r (screen_of new.surface))
  pub no_scroll : result ≡ Err ScrollRegion → ⊥
  pub preserves : PreservesServing columns_by old new

abbrev pub DrawsFor :
    SurfaceValue ChosenWidths → Region → SourceValue ChosenWidths → Outcome →
    SourceValue ChosenWidths → Type 0
DrawsFor source r old outcome new =
    (result : Result ℕ SurfaceError) × (outcome ≡ outcome_of changing_failure result) ×
    DrawsAs source r old result new

-- where both measure by the same widths
abbrev pub DrawsSame :
    SurfaceValue ChosenWidths → Region → SourceValue ChosenWidths → Outcome →
    SourceValue ChosenWidths → Type 0
DrawsSame source r old = WhereSame source.widths old.surface.widths (DrawsFor source r) old

abbrev pub DrawsSource : Option Kept → Region → Option Kept → Outcome → Option Kept → Type 0
DrawsSource (Some source) r = OfKind (λ s. OnSurface (DrawsSame s r)) (shown_of source)
DrawsSource None r = Refused NoHandle

-- a region is copied as the library copies it
pub record CopiesAs (from_x from_y width height x y : ℕ) (old : SourceValue ChosenWidths)
    (result : Result ℕ SurfaceError) (new : SourceValue ChosenWidths) : Type 0 where
  pub copied :
      IsCopied columns_by (trimmed_surface old.surface) from_x from_y width height x y result
      new.surface
  -- what the region showed before, where no wide grapheme crosses an edge
  pub region :
      OnOk result
      (HasCopied old.surface (copied_region (screen_of old.surface) from_x from_y width height x y)
      (screen_of new.surface))
  pub no_scroll : result ≡ Err ScrollRegion → ⊥
  pub preserves : PreservesServing columns_by old new

abbrev pub Copies :
    (from_x from_y width height x y : ℕ) → SourceValue ChosenWidths → Outcome →
    SourceValue ChosenWidths → Type 0
Copies from_x from_y width height x y old outcome new =
    (result : Result ℕ SurfaceError) × (outcome ≡ outcome_of changing_failure result) ×
    CopiesAs from_x from_y width height x y old result new

-- a region is drawn at another place of its surface as the library draws it
pub record DrawsRegionAs (from_x from_y width height x y : ℕ) (old : SourceValue ChosenWidths)
    (result : Result ℕ SurfaceError) (new : SourceValue ChosenWidths) : Type 0 where
  pub drawn :
      IsDrawn columns_by (trimmed_surface old.surface) (trimmed_surface old.surface)
      (region_at x y width height from_x from_y) result new.surface
  -- all but the rows is as before
  pub restores :
      OnOk result
      (screen_of new.surface ≡
      record (screen_of old.surface) { rows = (screen_of new.surface).rows })
  -- what the region showed before, where no wide grapheme crosses an edge
  pub region :
      OnOk result
      (HasCopied old.surface (copied_region (screen_of old.surface) from_x from_y width height x y)
      (screen_of new.surface))
  pub no_scroll : result ≡ Err ScrollRegion → ⊥
  pub preserves : PreservesServing columns_by old new

abbrev pub DrawsRegion :
    (from_x from_y width height x y : ℕ) → SourceValue ChosenWidths → Outcome →
    SourceValue ChosenWidths → Type 0
DrawsRegion from_x from_y width height x y old outcome new =
    (result : Result ℕ SurfaceError) × (outcome ≡ outcome_of changing_failure result) ×
    DrawsRegionAs from_x from_y width height x y old result new

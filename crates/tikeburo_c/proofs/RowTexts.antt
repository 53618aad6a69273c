-- The texts of a row, filled to the width.
use Rattle.std.proofs.Common.{◌≡◌, ◌<◌, ℕ, List, [], length, true, arith, refl, subst, ap, ◌∙◌, Some, option_map, slice_get}
use Rattle.std.proofs.lemmas.Option.{get_or_from_slice_get, slice_get-map, slice_get_within}
use Rattle.termwiz_cell.specs.CellValue.{CellValue}
use Rattle.termwiz_storage.specs.Halves.{resized}
use Rattle.termwiz_storage.specs.Stored.{visible}
use Rattle.termwiz_line.specs.Row.{row_of}
use Rattle.termwiz_line.proofs.Resized.{resized_is_row}
use Rattle.termwiz_screen.specs.Measured.{IsStored}
use Rattle.termwiz_screen.specs.Screen.{row_at}
use Rattle.termwiz_surface.specs.{texts_of}
use Rattle.termwiz_surface.specs.Surface.{IsSound, SurfaceValue}
use Rattle.tikeburo_c.specs.Cells.{GivesRow}
use Rattle.tikeburo_c.specs.Outcomes.{Outcome}
use Rattle.tikeburo_c.specs.Results.{Buffer, GivesInto, OrNoMemory}
use Rattle.tikeburo_c.specs.declared.widths.ChosenWidths.{ChosenWidths}

module _ (s : SurfaceValue ChosenWidths) (row : ℕ) where
  -- stored cells that are cut or padded to the width are the row's
  resized_row : (measure : List ℕ → ℕ) (cs : List CellValue) → IsSound measure s → slice_get s.lines row ≡ Some cs → resized s.width cs ≡ row_of s.width cs
  resized_row measure cs sound e =
      let within : row < length s.lines = slice_get_within s.lines row cs e in
      let is : row_at s.lines row ≡ cs = get_or_from_slice_get s.lines row cs [] e in
      let z : IsStored measure s.width cs = subst (IsStored measure s.width) is (sound.stored_so row (omega (arith, within, sound.full))) in
      resized_is_row s.width cs (record { width = refl; settled = λ k l t. z.halves k (omega (arith, l, z.within)) t })

  module _ (old : Buffer) (outcome : Outcome) (new : Buffer) where
    pub gives_filled : (measure : List ℕ → ℕ) (cs ds : List CellValue) (w : ℕ) → IsSound measure s → slice_get s.lines row ≡ Some cs → w ≡ s.width → ds ≡ resized w cs → OrNoMemory (GivesInto (texts_of (visible ds))) old outcome new → GivesRow true row s old outcome new
    gives_filled measure cs ds w sound e wide is h =
        rw (slice_get-map (row_of s.width) s.lines row ∙ ap (option_map (row_of s.width)) e)
        (subst (λ xs. OrNoMemory (GivesInto (texts_of (visible xs))) old outcome new) (is ∙ ap (λ v. resized v cs) wide ∙ resized_row measure cs sound e) h)

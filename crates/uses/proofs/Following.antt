-- What a surface answers, and lists that have no scroll past the last row.
use Rattle.std.proofs.Common.{◌≡◌, ℕ, Bool, true, false, List, sym, ap, ◌∙◌}
use Rattle.std.specs.Prelude.{Err, if◌then◌else◌}
use Rattle.std.proofs.lemmas.Bool.{true≢false}
use Rattle.termwiz_surface.specs.{Adds, ChangeValue, SurfaceValue, due, knows, own_repaint, regions_fit}
use Rattle.termwiz_surface.specs.declared.surface.SurfaceError.{SurfaceError}
use Rattle.termwiz_surface.specs.declared.surface.SurfaceError.TheVariants.{Memory, Numbers, ScrollRegion}
use Rattle.uses.specs.Following.{answer_for}

module _ {W : Type 0} where
  pub answer_is : (s : SurfaceValue W) (n : ℕ) (b : Bool) (changes : List ChangeValue) → knows s n ≡ b → (knows s n ≡ true → changes ≡ due s.log n) → (knows s n ≡ false → changes ≡ own_repaint s) → changes ≡ answer_for s n
  answer_is s n true changes is known repaint = known is ∙ sym (ap (λ (b : Bool). if b then due s.log n else own_repaint s) is)
  answer_is s n false changes is known repaint = repaint is ∙ sym (ap (λ (b : Bool). if b then due s.log n else own_repaint s) is)

  pub never_scrolls : (m : List ℕ → ℕ) (old new : SurfaceValue W) (cs : List ChangeValue) (n : ℕ) (e : SurfaceError) → Adds m old cs n (Err e) new → regions_fit old.height cs ≡ true → e ≡ ScrollRegion → ⊥
  never_scrolls m old new cs n ScrollRegion a fits is = true≢false (sym fits ∙ a.0)
  never_scrolls m old new cs n Numbers a fits is = cc
  never_scrolls m old new cs n Memory a fits is = cc

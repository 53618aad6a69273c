-- The zones of the visible cells that count, as the zones of all.
use Rattle.std.proofs.Common.{◌≡◌, ◌≢◌, ℕ, ◌-◌, ◌≤◌, List, ◌∷◌, [], length, ◌++◌, subst, sym, take, arith, refl, ap, ◌∙◌, suc, zero}
use Rattle.termwiz_storage.specs.VisibleCell.{VisibleCell}
use Rattle.std.proofs.lemmas.List.{take_all}
use Rattle.std.proofs.lemmas.List.Elements.{All-nil}
use Rattle.termwiz_line.specs.declared.line.line.zones.ZoneRange.{ZoneRange}
use Rattle.termwiz_line.specs.Pieces.{none}
use Rattle.termwiz_line.specs.Trim.{IsTrimmed}
use Rattle.termwiz_line.specs.Zones.{AreZonesOf, AreZones, IsBlank}

pub AreZones-none : (cells : List VisibleCell) → cells ≡ [] → AreZones cells []
AreZones-none cells e = rw e (record {
  kept = [];
  trimmed = record { dropped = []; whole = refl; dull = All-nil IsBlank; counts = λ before last q d. elim before as (λ b. [] ≡ b ++ last ∷ [] → ⊥) [ [] ↦ λ e. cc | y ∷ ys ↦ λ e. cc ] q };
  of_kept = λ n. absurd (n refl);
  of_all = λ e. record { pieces = []; cut = record { whole = refl; longest = none }; zones_are = refl };
})

pub AreZones-kept : (cells : List VisibleCell) (kept count : ℕ) (first : VisibleCell) (rest : List VisibleCell) (zones : List ZoneRange) → cells ≡ first ∷ rest → IsTrimmed IsBlank cells (take kept cells) → (kept ≡ 0 → length cells ≤ count) → (kept ≢ 0 → count ≡ kept - 1) → AreZonesOf (first ∷ take count rest) zones → AreZones cells zones
AreZones-kept cells zero count first rest zones e t p q z =
    let n : length cells ≡ suc (length rest) = ap length e in
    let r : take count rest ≡ rest = take_all count rest (omega (arith, p refl)) in
    record {
      kept = take 0 cells;
      trimmed = t;
      of_kept = λ n. absurd (n refl);
      of_all = λ k. rw e (subst (λ (w : List VisibleCell). AreZonesOf (first ∷ w) zones) r z);
    }
AreZones-kept cells (suc kept) count first rest zones e t p q z =
    let m : count ≡ kept = omega (arith, q (λ h. absurd (omega arith))) in
    let k : take (suc kept) cells ≡ first ∷ take count rest = rw (e, m) refl in
    record {
      kept = take (suc kept) cells;
      trimmed = t;
      of_kept = λ n. rw k z;
      of_all = λ h. absurd (let a : first ∷ take count rest ≡ [] = sym k ∙ h in cc);
    }

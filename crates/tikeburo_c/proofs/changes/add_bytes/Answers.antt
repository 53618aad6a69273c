use Rattle.std.proofs.Common.{◌≡◌, inl, inr, List, ℕ, refl, ap, ◌∙◌, subst}
use Rattle.std.specs.Prelude.{true, Ok, Err, map}
use Rattle.std.specs.declared.alloc.Global.{Global}
use Rattle.std.specs.declared.vec.Vec.{Vec}
use Rattle.termwiz_cell.specs.ChangeValue.{ChangeValue, change_value}
use Rattle.termwiz_cell.specs.declared.change.Change.{Change}
use Rattle.termwiz_share.specs.Source.{SourceValue}
use Rattle.termwiz_surface.specs.Surface.{SurfaceValue}
use Rattle.tikeburo_c.proofs.Decoded.{failed_by}
use Rattle.tikeburo_c.specs.Changes.{AddsBytes, AddsChanges, IsOnlyList}
use Rattle.tikeburo_c.specs.Outcomes.{Outcome}
use Rattle.tikeburo_c.specs.Widths.{columns_by}
use Rattle.tikeburo_c.specs.declared.failure.Failure.{Failure}
use Rattle.tikeburo_c.specs.declared.widths.ChosenWidths.{ChosenWidths}
use Rattle.tikeburo_c.proofs.changes.add_bytes.Goals as goal

none_added : (bytes : List ℕ) (s : SourceValue ChosenWidths) (f : Failure) → IsOnlyList (columns_by s.surface.widths) bytes (Err f) → AddsBytes bytes s (Err f) s
none_added bytes s f only = elim only [
  | inl memory ↦ record { adds = λ cs are e. inl (ap (λ (g : Failure). Err g) memory, refl); others = inr (inl (ap (λ (g : Failure). Err g) memory, refl)) }
  | inr wrong ↦ record { adds = λ cs are e. absurd (wrong.1 cs are e); others = inl (ap (λ (g : Failure). Err g) wrong.0, refl) }
]

list_added : (bytes : List ℕ) (s : SourceValue ChosenWidths) (cs : Vec Change Global) (outcome : Outcome) (t : SourceValue ChosenWidths) → IsOnlyList (columns_by s.surface.widths) bytes (Ok cs) → AddsChanges true (map change_value cs.items) s outcome t → AddsBytes bytes s outcome t
list_added bytes s cs outcome t only added = record {
  adds = λ ds are e. inr (subst (λ (es : List ChangeValue). AddsChanges true es s outcome t) (only.1 ds are e) added);
  others = inr (inr (map change_value cs.items, only.0, added));
}

pub returns-in_err-changes : goal.returns-in_err-changes
returns-in_err-changes c =
    let bytes = c.args.bytes.now in
    let source = c.args.surface.now in
    let failure = c.in_err-changes.field-0.0 in
    let same : c.widths.result ≡ source.surface.widths = c.widths.ensures ∙ ap (λ (s : SurfaceValue ChosenWidths). s.widths) c.surface.ensures.value in
    let only = subst (λ (w : ChosenWidths). IsOnlyList (columns_by w) bytes (Err failure)) same c.in_err-changes.ensures in
    failed_by (λ (r : Outcome). AddsBytes bytes source r source) c.from_residual.result failure c.from_residual.ensures.1 (none_added bytes source failure only)

pub returns : goal.returns
returns c =
    let bytes = c.args.bytes.now in
    let source = c.args.surface.now in
    let changes = c.in_ok-changes.changes in
    let same : c.widths.result ≡ source.surface.widths = c.widths.ensures ∙ ap (λ (s : SurfaceValue ChosenWidths). s.widths) c.surface.ensures.value in
    let only = subst (λ (w : ChosenWidths). IsOnlyList (columns_by w) bytes (Ok changes)) same c.in_ok-changes.ensures in
    list_added bytes source changes c.add_changes.result c.add_changes.new.surface only c.add_changes.ensures

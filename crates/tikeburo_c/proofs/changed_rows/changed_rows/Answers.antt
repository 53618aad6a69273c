use Rattle.std.proofs.Common.{◌≡◌, ◌∷◌, [], ℕ, List, true, ap, arith, nat_lt, map, sym, refl, ◌++◌, ◌∙◌}
use Rattle.std.specs.List.{range_with_len}
use Rattle.std.proofs.lemmas.Bool.{lt-ltb}
use Rattle.std.proofs.lemmas.List.FromFn.{map-range_with_len_more}
use mir.Val.{bool_byte}
use Rattle.std.specs.Prelude.{Bool, false, if◌then◌else◌}
use Rattle.tikeburo_c.specs.ChangedRows.{changed_byte}
use Rattle.tikeburo_c.proofs.changed_rows.changed_rows.Goals as goal

byte-of : (b : Bool) → bool_byte b ≡ (if b then 1 else 0)
byte-of true = refl
byte-of false = refl

pub loop-row-preserved : goal.loop-row-preserved
loop-row-preserved c =
    let f : ℕ → ℕ = changed_byte c.args.since c.args.surface.now in
    let row : ℕ = c.loop-row.row in
    let inside : nat_lt row c.args.surface.now.height ≡ true = lt-ltb _ _ (omega (arith, c.loop-row-test.true, c.dimensions-height.ensures.height)) in
    let byte : c.from.result ≡ f row = rw (c.from.ensures, c.row_changed_since.ensures, inside) (byte-of _) in
    c.in_ok-push.ensures.items
    ∙ ap (λ (rows : List ℕ). rows ++ c.from.result ∷ []) c.loop-row.invariant
    ∙ ap (λ (b : ℕ). map f (range_with_len 0 row) ++ b ∷ []) byte
    ∙ sym (map-range_with_len_more f 0 row row (omega arith))

-- The mark of the last visible cell, set on the last of a text's attributes.
use Rattle.std.proofs.Common.{◌≡◌, ℕ, suc, ◌+◌, ◌-◌, ◌<◌, ◌≤◌, List, [], ◌∷◌, ◌++◌, length, take, drop, map, replicate, Bool, true, false, refl, ap, sym, ◌∙◌, arith, append_assoc, length-append}
use Rattle.std.proofs.lemmas.List.{append-nil, replicate_more, length-map, take-append-drop}
use Rattle.std.proofs.Math.Seq.{take-append-add, drop-append-add}
use Rattle.termwiz_cell.specs.Attributes.{Attributes}
use Rattle.termwiz_cell.specs.CellValue.{CellValue, columns}
use Rattle.termwiz_storage.specs.declared.line.clusterline.runs.Shape.{Shape}
use Rattle.termwiz_storage.specs.CellRuns.{map_last, marked}
use Rattle.termwiz_storage.specs.Clustered.{IsClusteredText, cell_len, first_cell, cells_from, shown_cells}
use Rattle.termwiz_storage.specs.Edits.{with_half}
use Rattle.termwiz_storage.specs.Stored.{visible, padded}
use Rattle.termwiz_storage.specs.Wrapped.{last_index, set_last_wrapped, with_wrapped, wrapped_from, wrapped_last}
use Rattle.termwiz_storage.proofs.Clustered.{visible-cells_from, length-with_half}

map_last-push : {X : Type 0} (f : X → X) (xs : List X) (x : X) → map_last f (xs ++ x ∷ []) ≡ xs ++ f x ∷ []
map_last-push f [] x = refl
map_last-push f (y ∷ []) x = refl
map_last-push {X} f (y ∷ z ∷ xs) x = ap (λ (w : List X). y ∷ w) (map_last-push f (z ∷ xs) x)

-- the last run of m + 1 cells, with its last cell changed
pub map_last-run : {X : Type 0} (f : X → X) (xs : List X) (m : ℕ) (x : X) → map_last f (xs ++ (replicate (m + 1) x ++ [])) ≡ xs ++ replicate m x ++ f x ∷ []
map_last-run f xs m x =
    rw (append-nil (replicate (m + 1) x), ← replicate_more m x, ← append_assoc xs (replicate m x) (x ∷ [])) (map_last-push f (xs ++ replicate m x) x)

-- the walk of a text that isn't empty ends at or after its start
shown_after : (i : ℕ) (t : List ℕ) (s : Shape) (ss : List Shape) (a : Attributes) (ps : List Attributes) → length ss ≡ length ps → i ≤ last_index (shown_cells i t (s ∷ ss) (a ∷ ps))
shown_after i t s [] a ps e = omega arith
shown_after i t s (x ∷ ss) a [] e = absurd (omega arith)
shown_after i t s (x ∷ ss) a (p ∷ ps) e =
    let c : CellValue = first_cell t s a in
    omega (arith, shown_after (i + columns c) (drop (cell_len s t) t) x ss p ps (omega arith))

wrap_one : (b w : Bool) (x : List ℕ) (a : Attributes) → with_half (record { text = x; wide = w; attrs = marked b a }) ++ [] ≡ wrapped_from b 0 (with_half (record { text = x; wide = w; attrs = a }) ++ [])
wrap_one b true x a = refl
wrap_one b false x a = refl

wrap_behind : (b : Bool) (w k : ℕ) (cs ds : List CellValue) → length cs ≡ w → cs ++ wrapped_from b k ds ≡ wrapped_from b (w + k) (cs ++ ds)
wrap_behind b w k cs ds e =
    rw (← e, take-append-add cs ds k, drop-append-add cs ds k) (sym (append_assoc cs (take k ds) (map (with_wrapped b) (drop k ds))))

marked_from : (b : Bool) (i : ℕ) (t : List ℕ) (s : Shape) (ss : List Shape) (a : Attributes) (ps : List Attributes) → length ss ≡ length ps → cells_from t (s ∷ ss) (map_last (marked b) (a ∷ ps)) ≡ wrapped_from b (last_index (shown_cells i t (s ∷ ss) (a ∷ ps)) - i) (cells_from t (s ∷ ss) (a ∷ ps))
marked_from b i t s [] a [] e =
    let z : i - i ≡ 0 = omega arith in
    rw z (wrap_one b s.wide (take (cell_len s t) t) a)
marked_from b i t s [] a (p ∷ ps) e = absurd (omega arith)
marked_from b i t s (x ∷ ss) a [] e = absurd (omega arith)
marked_from b i t s (x ∷ ss) a (p ∷ ps) e =
    let c : CellValue = first_cell t s a in
    let w : ℕ = columns c in
    let r : List ℕ = drop (cell_len s t) t in
    let m : ℕ = last_index (shown_cells (i + w) r (x ∷ ss) (p ∷ ps)) in
    let k : m - i ≡ w + (m - (i + w)) = omega (arith, shown_after (i + w) r x ss p ps (omega arith)) in
    ap (λ (z : List CellValue). with_half c ++ z) (marked_from b (i + w) r x ss p ps (omega arith))
    ∙ wrap_behind b w (m - (i + w)) (with_half c) (cells_from r (x ∷ ss) (p ∷ ps)) (length-with_half c)
    ∙ ap (λ (n : ℕ). wrapped_from b n (with_half c ++ cells_from r (x ∷ ss) (p ∷ ps))) (sym k)

pub cells_from-marked : (b : Bool) (cs : List CellValue) (t : List ℕ) (ss : List Shape) (ps : List Attributes) → length ss ≡ length ps → cells_from t ss ps ≡ cs → cells_from t ss (map_last (marked b) ps) ≡ wrapped_last b cs
cells_from-marked b cs t [] [] e h = rw (← h) refl
cells_from-marked b cs t [] (p ∷ ps) e h = absurd (omega arith)
cells_from-marked b cs t (s ∷ ss) [] e h = absurd (omega arith)
cells_from-marked b cs t (s ∷ ss) (a ∷ ps) e h =
    let n : last_index (shown_cells 0 t (s ∷ ss) (a ∷ ps)) - 0 ≡ last_index (visible cs) = ap (λ z. last_index z - 0) (visible-cells_from cs t (s ∷ ss) (a ∷ ps) h) ∙ omega arith in
    marked_from b 0 t s ss a ps (omega arith) ∙ ap (λ (k : ℕ). wrapped_from b k (cells_from t (s ∷ ss) (a ∷ ps))) n ∙ ap (wrapped_from b (last_index (visible cs))) h

-- nothing is padded where there are cells
pub marked-some : (b : Bool) (cs : List CellValue) → 0 < length cs → wrapped_last b cs ≡ set_last_wrapped b cs
marked-some b cs l =
    let n : 1 - length cs ≡ 0 = omega arith in
    let same : padded 1 cs ≡ cs = rw n (append-nil cs) in
    ap (wrapped_last b) (sym same)

length-map_last : {X : Type 0} (f : X → X) (xs : List X) → length (map_last f xs) ≡ length xs
length-map_last f [] = refl
length-map_last f (x ∷ []) = refl
length-map_last f (x ∷ y ∷ xs) = ap suc (length-map_last f (y ∷ xs))

length-wrapped_from : (b : Bool) (k : ℕ) (cs : List CellValue) → length (wrapped_from b k cs) ≡ length cs
length-wrapped_from b k cs = length-append (take k cs) (map (with_wrapped b) (drop k cs)) ∙ ap (λ (n : ℕ). length (take k cs) + n) (length-map (drop k cs) (with_wrapped b)) ∙ sym (length-append (take k cs) (drop k cs)) ∙ ap length (take-append-drop k cs)

pub IsSound-marked : (b : Bool) (t : List ℕ) (ss : List Shape) (ps : List Attributes) (n : ℕ) → IsClusteredText t ss ps n → IsClusteredText t ss (map_last (marked b) ps) n
IsSound-marked b t ss ps n h =
    let cs : List CellValue = cells_from t ss ps in
    record {
      cuts = h.cuts;
      aligned = h.aligned ∙ sym (length-map_last (marked b) ps);
      len = h.len ∙ sym (ap length (cells_from-marked b cs t ss ps h.aligned refl) ∙ length-wrapped_from b (last_index (visible cs)) cs);
      fits = h.fits;
    }

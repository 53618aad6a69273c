-- The mark of the last visible cell, once it was set.
use Rattle.std.proofs.Common.{◌≡◌, ℕ, zero, suc, ◌+◌, ◌-◌, ◌<◌, ◌≤◌, Bool, inl, inr, List, [], ◌∷◌, length, map, refl, arith}
use Rattle.std.proofs.lemmas.Bool.{cases_lt}
use Rattle.std.proofs.lemmas.List.{length-map}
use Rattle.termwiz_cell.specs.CellValue.{CellValue, columns}
use Rattle.termwiz_storage.specs.Stored.{visible, visible_from, padded}
use Rattle.termwiz_storage.specs.Wrapped.{last_index, with_wrapped, wrapped_from, set_last_wrapped}
use Rattle.termwiz_storage.proofs.Halves.{length-padded}
use Rattle.termwiz_storage.proofs.LastCell.{last_index-cons, walk_none}
use Rattle.termwiz_storage.specs.VisibleCell.{VisibleCell, at_column}
use Rattle.termwiz_line.specs.Wrapped.{last_is_wrapped}

-- there is a last cell, and b tells whether it is marked
data EndsMarked (b : Bool) : List VisibleCell → Type 0 where
  here : {p : VisibleCell} → p.cell.attrs.wrapped ≡ b → EndsMarked b (p ∷ [])
  later : {p : VisibleCell} {ps : List VisibleCell} → EndsMarked b ps → EndsMarked b (p ∷ ps)

last_is : (b : Bool) (ps : List VisibleCell) → EndsMarked b ps → last_is_wrapped ps ≡ b
last_is b [] h = elim h [ ]
last_is b (p ∷ []) (here e) = e
last_is b (p ∷ []) (later h) = elim h [ ]
last_is b (p ∷ (q ∷ qs)) (later h) = last_is b (q ∷ qs) h

all_marked : (b : Bool) (i s : ℕ) (cs : List CellValue) → s < length cs → EndsMarked b (visible_from i s (map (with_wrapped b) cs))
all_marked b i s [] l = absurd (omega arith)
all_marked b i (suc s) (c ∷ cs) l = all_marked b (i + 1) s cs (omega arith)
all_marked b i zero (c ∷ cs) l = elim (cases_lt (columns c - 1) (length cs)) [
  | inl u ↦ later (all_marked b (i + 1) (columns c - 1) cs u)
  | inr u ↦
      let none : visible_from (i + 1) (columns c - 1) (map (with_wrapped b) cs) ≡ [] = walk_none (i + 1) (columns c - 1) (map (with_wrapped b) cs) (omega (arith, length-map cs (with_wrapped b))) in
      rw none (here refl)
]

marked_from : (b : Bool) (i s k : ℕ) (cs : List CellValue) → s < length cs → i + k ≤ last_index (visible_from i s cs) → EndsMarked b (visible_from i s (wrapped_from b k cs))
marked_from b i s zero cs l h = all_marked b i s cs l
marked_from b i s (suc k) [] l h = absurd (omega arith)
marked_from b i (suc s) (suc k) (c ∷ cs) l h = marked_from b (i + 1) s k cs (omega arith) (omega (arith, h))
marked_from b i zero (suc k) (c ∷ cs) l h = elim (cases_lt (columns c - 1) (length cs)) [
  | inl u ↦ later (marked_from b (i + 1) (columns c - 1) k cs u (omega (arith, h, last_index-cons (i + 1) (columns c - 1) (at_column i c) cs u)))
  | inr u ↦
      let none : visible_from (i + 1) (columns c - 1) cs ≡ [] = walk_none (i + 1) (columns c - 1) cs u in
      let same : i + suc k ≤ i = rw none at h in
      absurd (omega (arith, same))
]

pub last_is-set : (b : Bool) (cs : List CellValue) → last_is_wrapped (visible (set_last_wrapped b cs)) ≡ b
last_is-set b cs =
    let ds : List CellValue = padded 1 cs in
    let some : 1 ≤ length ds = (length-padded 1 cs).0 in
    let k : ℕ = last_index (visible ds) in
    last_is b (visible (wrapped_from b k ds)) (marked_from b 0 0 k ds (omega (arith, some)) (omega arith))

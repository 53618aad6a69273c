-- Bytes with narrow cells of their own before other bytes.
use Rattle.std.proofs.Common.{◌≡◌, ℕ, ◌+◌, ◌-◌, ◌<◌, ◌≤◌, List, [], ◌∷◌, ◌++◌, length, get_or, map, replicate, refl, sym, ◌∙◌, arith, length-append}
use Rattle.std.proofs.lemmas.List.{append-nil, get_or_append_left, get_or-append_right, get_or_read_under}
use Rattle.std.proofs.lemmas.List.FromFn.{get_or-map-range_with_len, length-map-range_with_len, map-range_with_len_more}
use Rattle.std.specs.List.{range_with_len}
use Rattle.termwiz_line.specs.PlainCells.{plain_cells}

plain_length : (start end : ℕ) → length (plain_cells start end) ≡ end - start
plain_length start end = length-map-range_with_len (λ i. (i, 1)) start (end - start)

pub cells_length : (start end : ℕ) (others : List (ℕ × ℕ)) → length (plain_cells start end ++ others) ≡ (end - start) + length others
cells_length start end others = omega (arith, length-append (plain_cells start end) others, plain_length start end)

pub plain_at : (start end byte : ℕ) (others : List (ℕ × ℕ)) → byte < end - start → (start + byte, 1) ≡ get_or (plain_cells start end ++ others) byte (0, 0)
plain_at start end byte others h =
    let read : get_or (plain_cells start end) byte (0, 0) ≡ (start + byte, 1) = get_or-map-range_with_len (λ i. (i, 1)) start (end - start) byte (start + byte) (0, 0) h refl in
    sym (get_or_append_left (plain_cells start end) others (0, 0) byte (omega (arith, h, plain_length start end)) ∙ read)

pub other_at : (start end byte : ℕ) (others : List (ℕ × ℕ)) (cell : ℕ × ℕ) → end - start ≤ byte → cell ≡ get_or others (byte - (end - start)) cell → byte - (end - start) < length others → cell ≡ get_or (plain_cells start end ++ others) byte (0, 0)
other_at start end byte others cell h e l =
    get_or_read_under others (byte - (end - start)) (length others) cell (0, 0) e l refl ∙ sym (get_or-append_right (plain_cells start end) others (end - start) byte (0, 0) (plain_length start end) h)

-- one more, where there are no others
pub plain_more : (start end count index width : ℕ) (others : List (ℕ × ℕ)) → start ≤ end → length others ≡ 0 → count ≡ 1 → width ≡ 1 → index ≡ end → plain_cells start (index + 1) ++ others ≡ (plain_cells start end ++ others) ++ replicate count (index, width)
plain_more start end count index width (x ∷ xs) h o c w i = absurd (omega (arith, o))
plain_more start end count index width [] h o c w i =
    let f : ℕ → ℕ × ℕ = λ k. (k, 1) in
    let n : (end + 1) - start ≡ (end - start) + 1 = omega (arith, h) in
    let more : map f (range_with_len start ((end - start) + 1)) ≡ plain_cells start end ++ (end, 1) ∷ [] = map-range_with_len_more f start (end - start) end (omega (arith, h)) in
    rw (c, w, i, append-nil, append-nil, n) more

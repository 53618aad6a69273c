-- A cleaned text is clean.
use Rattle.std.proofs.Common.{◌≡◌, ℕ, Bool, true, false, List, [], ◌∷◌, length, ◌+◌, ◌≤◌, refl, ap, arith}
use Rattle.std.specs.Prelude.{bytes_eq, if◌then◌else◌}
use Rattle.termwiz_cell.specs.CellValue.{clean, is_control, space}

one_byte : (b : ℕ) (v : Bool) → is_control b ≡ v → clean (if v then space else b ∷ []) ≡ (if v then space else b ∷ [])
one_byte b true e = refl
one_byte b false e = ap (λ v. if v then space else b ∷ []) e

more_bytes : (b c : ℕ) (t : List ℕ) (v : Bool) → bytes_eq (b ∷ (c ∷ t)) (13 ∷ 10 ∷ []) ≡ v → clean (if v then space else b ∷ (c ∷ t)) ≡ (if v then space else b ∷ (c ∷ t))
more_bytes b c t true e = refl
more_bytes b c t false e = ap (λ v. if v then space else b ∷ (c ∷ t)) e

pub clean_clean : (text : List ℕ) → clean (clean text) ≡ clean text
clean_clean [] = refl
clean_clean (b ∷ []) = one_byte b (is_control b) refl
clean_clean (b ∷ (c ∷ t)) = more_bytes b c t (bytes_eq (b ∷ (c ∷ t)) (13 ∷ 10 ∷ [])) refl

one_length : (b : ℕ) (v : Bool) → length (if v then space else b ∷ []) ≤ 2
one_length b true = omega arith
one_length b false = omega arith

more_length : (b c : ℕ) (t : List ℕ) (v : Bool) → length (if v then space else b ∷ (c ∷ t)) ≤ length (b ∷ (c ∷ t)) + 1
more_length b c t true = omega arith
more_length b c t false = omega arith

-- cleaning makes only the empty text longer
pub length_clean : (text : List ℕ) → length (clean text) ≤ length text + 1
length_clean [] = omega arith
length_clean (b ∷ []) = one_length b (is_control b)
length_clean (b ∷ (c ∷ t)) = more_length b c t (bytes_eq (b ∷ (c ∷ t)) (13 ∷ 10 ∷ []))

-- A run of letters that is stored at once, each with its half.
use Rattle.std.proofs.Common.{◌≡◌, ◌≢◌, ℕ, suc, ◌+◌, ◌*◌, ◌-◌, ◌<◌, ◌≤◌, false, max, List, [], ◌∷◌, ◌++◌, length, take, drop, set, refl, subst, sym, ◌∙◌, ap, arith, length-drop, take-append-drop, take_at}
use Rattle.std.proofs.lemmas.List.{get_or-set_same, get_or-set_other, length-set, length-take-le, set-append_left, set-append_right}
use Rattle.std.specs.List.{refill}
use borrow.Rule.Slice.PartMut.{put_mid}
use Rattle.termwiz_cell.specs.Attributes.{Attributes}
use Rattle.termwiz_cell.specs.CellValue.{CellValue, blank, half, is_wide}
use Rattle.termwiz_storage.specs.Letters.{letter_cell, set_letters, put_letters}
use Rattle.termwiz_storage.specs.Stored.{torn, stored, padded, put, set_cell}
use Rattle.termwiz_storage.specs.Used.{IsUsedTo}
use Rattle.termwiz_storage.proofs.Halves.{length-torn, length-padded, set_cell-torn}
use Rattle.termwiz_storage.proofs.Runs.{padded-long, torn-behind}
use Rattle.termwiz_storage.proofs.SetCell.{length-set_cell, set_cell-padded}
use Rattle.termwiz_storage.proofs.Used.{used-set, used-more}

set_letter-inside : (i : ℕ) (c : ℕ) (a : Attributes) (cs : List CellValue) → i + 2 ≤ length cs → set_cell i (letter_cell c a) cs ≡ put i (letter_cell c a) (torn i cs)
set_letter-inside i c a cs l =
    sym (set_cell-torn i (i + 2) (letter_cell c a) cs refl) ∙ ap (λ (ds : List CellValue). put i (letter_cell c a) (torn i ds)) (padded-long (i + 2) cs l)

-- after a half nothing is torn
torn-behind_half : (i : ℕ) (cs : List CellValue) → is_wide (stored cs (i + 1)) ≡ false → torn (i + 2) cs ≡ cs
torn-behind_half i cs n = let two : i + 1 + 1 ≡ i + 2 = omega arith in subst (λ k. torn k cs ≡ cs) two (torn-behind (i + 1) cs n)

-- a letter's cell among stored ones
abbrev with_letter : ℕ → ℕ → Attributes → List CellValue → List CellValue
with_letter i c a cs = put i (letter_cell c a) cs

length-with_letter : (i : ℕ) (c : ℕ) (a : Attributes) (cs : List CellValue) → length (with_letter i c a cs) ≡ length cs
length-with_letter i c a cs = length-set (set cs (i + 1) (half (letter_cell c a))) i (letter_cell c a) ∙ length-set cs (i + 1) (half (letter_cell c a))

half-with_letter : (i : ℕ) (c : ℕ) (a : Attributes) (cs : List CellValue) → i + 2 ≤ length cs → is_wide (stored (with_letter i c a cs) (i + 1)) ≡ false
half-with_letter i c a cs l =
    let next : i + 1 ≢ i = omega arith in
    let at : stored (with_letter i c a cs) (i + 1) ≡ half (letter_cell c a) = get_or-set_other (set cs (i + 1) (half (letter_cell c a))) i (i + 1) (letter_cell c a) blank next ∙ get_or-set_same cs (i + 1) (half (letter_cell c a)) blank (omega arith) in
    ap is_wide at

set_letters-behind : (i : ℕ) (ls : List ℕ) (a : Attributes) (cs : List CellValue) → is_wide (stored cs (i + 1)) ≡ false → i + 2 + 2 * length ls ≤ length cs → set_letters (i + 2) ls a cs ≡ put_letters (i + 2) ls a cs
set_letters-behind i [] a cs n l = refl
set_letters-behind i (c ∷ ls) a cs n l =
    let d : CellValue = letter_cell c a in
    let here : set_cell (i + 2) d cs ≡ put (i + 2) d cs = set_letter-inside (i + 2) c a cs (omega arith) ∙ ap (λ (ds : List CellValue). put (i + 2) d ds) (torn-behind_half i cs n) in
    ap (set_letters (i + 2 + 2) ls a) here
    ∙ set_letters-behind (i + 2) ls a (put (i + 2) d cs) (half-with_letter (i + 2) c a cs (omega arith)) (omega (arith, length-with_letter (i + 2) c a cs))

-- a wide cell is torn before the first letter alone
set_letters-inside : (i : ℕ) (c : ℕ) (ls : List ℕ) (a : Attributes) (cs : List CellValue) → i + 2 + 2 * length ls ≤ length cs → set_letters i (c ∷ ls) a cs ≡ put_letters i (c ∷ ls) a (torn i cs)
set_letters-inside i c ls a cs l =
    let d : CellValue = letter_cell c a in
    let same : length (torn i cs) ≡ length cs = length-torn i cs in
    ap (set_letters (i + 2) ls a) (set_letter-inside i c a cs (omega arith))
    ∙ set_letters-behind i ls a (put i d (torn i cs)) (half-with_letter i c a (torn i cs) (omega arith)) (omega (arith, length-with_letter i c a (torn i cs)))

-- the list may be padded first
set_letters-padded : (i n : ℕ) (ls : List ℕ) (a : Attributes) (cs : List CellValue) → i ≤ length cs → n ≡ i + 2 * length ls → set_letters i ls a cs ≡ set_letters i ls a (padded n cs)
set_letters-padded i n [] a cs l e = sym (padded-long n cs (omega arith))
set_letters-padded i n (c ∷ ls) a cs l e =
    let d : CellValue = letter_cell c a in
    set_letters-padded (i + 2) n ls a (set_cell i d cs) (omega (arith, length-set_cell i d cs)) (omega arith)
    ∙ ap (set_letters (i + 2) ls a) (sym (set_cell-padded n i d cs (omega arith)))

set_letters-first : (i n : ℕ) (c : ℕ) (ls : List ℕ) (a : Attributes) (cs : List CellValue) → n ≡ i + 2 + 2 * length ls → set_letters i (c ∷ ls) a cs ≡ set_letters i (c ∷ ls) a (padded n cs)
set_letters-first i n c ls a cs e =
    let d : CellValue = letter_cell c a in
    set_letters-padded (i + 2) n ls a (set_cell i d cs) (omega (arith, length-set_cell i d cs)) e
    ∙ ap (set_letters (i + 2) ls a) (sym (set_cell-padded n i d cs (omega arith)))

-- padded, torn once, and written
pub put_letters-torn : (i n : ℕ) (ls : List ℕ) (a : Attributes) (cs : List CellValue) → i < n → n ≡ i + 2 * length ls → put_letters i ls a (torn i (padded n cs)) ≡ set_letters i ls a cs
put_letters-torn i n [] a cs l e = absurd (omega arith)
put_letters-torn i n (c ∷ ls) a cs l e =
    let long : n ≤ length (padded n cs) = (length-padded n cs).0 in
    sym (set_letters-first i n c ls a cs (omega arith) ∙ set_letters-inside i c ls a (padded n cs) (omega arith))

pub set_no_letters : (i n : ℕ) (ls : List ℕ) (a : Attributes) (cs : List CellValue) → n ≤ i → n ≡ i + 2 * length ls → cs ≡ set_letters i ls a cs
set_no_letters i n [] a cs l e = refl
set_no_letters i n (c ∷ ls) a cs l e = absurd (omega arith)

pub used-put_letters : (u i : ℕ) (ls : List ℕ) (a : Attributes) (cs : List CellValue) → IsUsedTo u cs → IsUsedTo (max u (i + 2 * length ls)) (put_letters i ls a cs)
used-put_letters u i [] a cs h = used-more u (max u (i + 2 * 0)) cs (omega arith) h
used-put_letters u i (c ∷ ls) a cs h =
    let d : CellValue = letter_cell c a in
    let both : IsUsedTo (max (max u (i + 1 + 1)) (i + 1)) (put i d cs) = used-set (max u (i + 1 + 1)) i d (set cs (i + 1) (half d)) (used-set u (i + 1) (half d) cs h) in
    let e : max (max (max u (i + 1 + 1)) (i + 1)) (i + 2 + 2 * length ls) ≡ max u (i + 2 * suc (length ls)) = omega arith in
    subst (λ n. IsUsedTo n (put_letters i (c ∷ ls) a cs)) e (used-put_letters (max (max u (i + 1 + 1)) (i + 1)) (i + 2) ls a (put i d cs) both)

-- the cells before and after the letters stay
put_letters-right : (ls : List ℕ) (i j k : ℕ) (a : Attributes) (xs ys : List CellValue) → length xs ≡ i → k ≡ i + j → put_letters k ls a (xs ++ ys) ≡ xs ++ put_letters j ls a ys
put_letters-right [] i j k a xs ys l e = refl
put_letters-right (c ∷ ls) i j k a xs ys l e =
    let d : CellValue = letter_cell c a in
    let next : k + 1 - i ≡ j + 1 = omega arith in
    let at : k - i ≡ j = omega arith in
    let here : put k d (xs ++ ys) ≡ xs ++ put j d ys =
    ap (λ zs. set zs k d) (set-append_right xs ys i (k + 1) (half d) l (omega arith))
    ∙ set-append_right xs (set ys (k + 1 - i) (half d)) i k d l (omega arith)
    ∙ rw (next, at) refl in
    ap (put_letters (k + 2) ls a) here ∙ put_letters-right ls i (j + 2) (k + 2) a xs (put j d ys) l (omega arith)

put_letters-left : (ls : List ℕ) (j : ℕ) (a : Attributes) (xs ys : List CellValue) → j + 2 * length ls ≤ length xs → put_letters j ls a (xs ++ ys) ≡ put_letters j ls a xs ++ ys
put_letters-left [] j a xs ys l = refl
put_letters-left (c ∷ ls) j a xs ys l =
    let d : CellValue = letter_cell c a in
    let here : put j d (xs ++ ys) ≡ put j d xs ++ ys =
    ap (λ zs. set zs j d) (set-append_left xs ys (j + 1) (half d) (omega arith))
    ∙ set-append_left (set xs (j + 1) (half d)) ys j d (omega (arith, length-set xs (j + 1) (half d))) in
    ap (put_letters (j + 2) ls a) here ∙ put_letters-left ls (j + 2) a (put j d xs) ys (omega (arith, length-with_letter j c a xs))

length-put_letters : (i : ℕ) (ls : List ℕ) (a : Attributes) (cs : List CellValue) → length (put_letters i ls a cs) ≡ length cs
length-put_letters i [] a cs = refl
length-put_letters i (c ∷ ls) a cs = length-put_letters (i + 2) ls a (put i (letter_cell c a) cs) ∙ length-with_letter i c a cs

-- letters that are written to a slice of the list, from column i on
pub put_letters-part : (i k n : ℕ) (ls : List ℕ) (a : Attributes) (cs ws : List CellValue) → k ≡ 2 * length ls → i + k ≤ length cs → n ≡ length cs → ws ≡ put_letters 0 ls a (take (i + k - i) (drop i cs)) → refill n cs (put_mid i (i + k - i) cs ws) ≡ put_letters i ls a cs
put_letters-part i k n ls a cs ws e l m w =
    let same : i + k - i ≡ k = omega arith in
    let part : List CellValue = take k (drop i cs) in
    let rest : List CellValue = drop k (drop i cs) in
    let before : length (take i cs) ≡ i = length-take-le i cs (omega arith) in
    let long : length part ≡ k = length-take-le k (drop i cs) (omega (arith, length-drop i cs)) in
    let own : ws ≡ put_letters 0 ls a part = rw same at w in
    let whole : cs ≡ take i cs ++ (part ++ rest) = sym (ap (λ zs. take i cs ++ zs) (take-append-drop k (drop i cs)) ∙ take-append-drop i cs) in
    let all : put_mid i (i + k - i) cs ws ≡ put_letters i ls a cs =
    rw (same, own) (sym (ap (put_letters i ls a) whole ∙ put_letters-right ls i 0 i a (take i cs) (part ++ rest) before (omega arith) ∙ ap (λ zs. take i cs ++ zs) (put_letters-left ls 0 a part rest (omega arith)))) in
    take_at (put_mid i (i + k - i) cs ws) _ n (ap length all ∙ length-put_letters i ls a cs ∙ sym m) ∙ all

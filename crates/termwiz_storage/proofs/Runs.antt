-- A run of ASCII that is stored at once.
use Rattle.std.proofs.Common.{◌≡◌, ◌++◌, get_or, ℕ, zero, suc, ◌+◌, ◌-◌, ◌<◌, ◌≤◌, false, ◌&&◌, max, List, [], ◌∷◌, length, map, replicate, take, drop, set, refl, subst, sym, ◌∙◌, ap, arith, add-one, add-zero, append_assoc, drop-drop, take_at}
use Rattle.std.specs.Prelude.{nat_lt}
use Rattle.std.proofs.lemmas.Bool.{and_right}
use Rattle.std.proofs.lemmas.List.{append-nil, get_or-set_same, length-map, length-replicate, length-set, map-append, take_more, take_more_set}
use Rattle.std.proofs.lemmas.List.Edits.{sets-eq}
use Rattle.std.proofs.Math.Seq.{length-sets, sets}
use Rattle.std.specs.List.{refill}
use borrow.Rule.Slice.PartMut.{put_mid}
use Rattle.termwiz_cell.specs.Attributes.{Attributes}
use Rattle.termwiz_cell.specs.CellValue.{CellValue, blank, is_wide, plain_cell}
use Rattle.termwiz_storage.specs.Stored.{fill, torn, stored, padded, set_cell, set_run, put_run}
use Rattle.termwiz_storage.specs.Used.{IsUsedTo}
use Rattle.termwiz_storage.proofs.Halves.{length-torn, length-padded, set_cell-torn}
use Rattle.termwiz_storage.proofs.SetCell.{length-set_cell, set_cell-padded}
use Rattle.termwiz_storage.proofs.Used.{used-set, used-more}

-- a list that is long enough is not padded
pub padded-long : (n : ℕ) (cs : List CellValue) → n ≤ length cs → padded n cs ≡ cs
padded-long n cs l = let none : n - length cs ≡ 0 = omega arith in rw none (append-nil cs)

set_cell-inside : (i : ℕ) (b : ℕ) (a : Attributes) (cs : List CellValue) → i < length cs → set_cell i (plain_cell b a) cs ≡ set (torn i cs) i (plain_cell b a)
set_cell-inside i b a cs l = sym (set_cell-torn i (i + 1) (plain_cell b a) cs refl) ∙ ap (λ (ds : List CellValue). set (torn i ds) i (plain_cell b a)) (padded-long (i + 1) cs (omega arith))

-- after a narrow cell nothing is torn
pub torn-behind : (i : ℕ) (cs : List CellValue) → is_wide (stored cs i) ≡ false → torn (i + 1) cs ≡ cs
torn-behind i cs n =
    let k : i + 1 - 1 ≡ i = omega arith in
    let no : (nat_lt 0 (i + 1) && is_wide (stored cs (i + 1 - 1))) ≡ false = and_right (nat_lt 0 (i + 1)) (is_wide (stored cs (i + 1 - 1))) (rw k n) in
    rw no refl

set_run-behind : (i : ℕ) (bs : List ℕ) (a : Attributes) (cs : List CellValue) → is_wide (stored cs i) ≡ false → i + 1 + length bs ≤ length cs → set_run (i + 1) bs a cs ≡ put_run (i + 1) bs a cs
set_run-behind i [] a cs n l = refl
set_run-behind i (b ∷ bs) a cs n l =
    let c : CellValue = plain_cell b a in
    let here : set_cell (i + 1) c cs ≡ set cs (i + 1) c = set_cell-inside (i + 1) b a cs (omega arith) ∙ ap (λ (ds : List CellValue). set ds (i + 1) c) (torn-behind i cs n) in
    ap (set_run (i + 1 + 1) bs a) here
    ∙ set_run-behind (i + 1) bs a (set cs (i + 1) c) (ap is_wide (get_or-set_same cs (i + 1) c blank (omega arith))) (omega (arith, length-set cs (i + 1) c))

-- a wide cell is torn before the first character alone
set_run-inside : (i : ℕ) (b : ℕ) (bs : List ℕ) (a : Attributes) (cs : List CellValue) → i + 1 + length bs ≤ length cs → set_run i (b ∷ bs) a cs ≡ put_run i (b ∷ bs) a (torn i cs)
set_run-inside i b bs a cs l =
    let c : CellValue = plain_cell b a in
    let same : length (torn i cs) ≡ length cs = length-torn i cs in
    ap (set_run (i + 1) bs a) (set_cell-inside i b a cs (omega arith))
    ∙ set_run-behind i bs a (set (torn i cs) i c) (ap is_wide (get_or-set_same (torn i cs) i c blank (omega arith))) (omega (arith, length-set (torn i cs) i c))

-- the list may be padded first
set_run-padded : (i n : ℕ) (bs : List ℕ) (a : Attributes) (cs : List CellValue) → i ≤ length cs → n ≡ i + length bs → set_run i bs a cs ≡ set_run i bs a (padded n cs)
set_run-padded i n [] a cs l e = sym (padded-long n cs (omega arith))
set_run-padded i n (b ∷ bs) a cs l e =
    let c : CellValue = plain_cell b a in
    set_run-padded (i + 1) n bs a (set_cell i c cs) (omega (arith, length-set_cell i c cs)) (omega arith)
    ∙ ap (set_run (i + 1) bs a) (sym (set_cell-padded n i c cs (omega arith)))

set_run-first : (i n : ℕ) (b : ℕ) (bs : List ℕ) (a : Attributes) (cs : List CellValue) → n ≡ i + 1 + length bs → set_run i (b ∷ bs) a cs ≡ set_run i (b ∷ bs) a (padded n cs)
set_run-first i n b bs a cs e =
    let c : CellValue = plain_cell b a in
    set_run-padded (i + 1) n bs a (set_cell i c cs) (omega (arith, length-set_cell i c cs)) e
    ∙ ap (set_run (i + 1) bs a) (sym (set_cell-padded n i c cs (omega arith)))

-- padded, torn once, and written
pub put_run-torn : (i n : ℕ) (bs : List ℕ) (a : Attributes) (cs : List CellValue) → i < n → n ≡ i + length bs → put_run i bs a (torn i (padded n cs)) ≡ set_run i bs a cs
put_run-torn i n [] a cs l e = absurd (omega arith)
put_run-torn i n (b ∷ bs) a cs l e =
    let long : n ≤ length (padded n cs) = (length-padded n cs).0 in
    sym (set_run-first i n b bs a cs (omega arith) ∙ set_run-inside i b bs a (padded n cs) (omega arith))

pub used-put_run : (u i : ℕ) (bs : List ℕ) (a : Attributes) (cs : List CellValue) → IsUsedTo u cs → IsUsedTo (max u (i + length bs)) (put_run i bs a cs)
used-put_run u i [] a cs h = used-more u (max u (i + 0)) cs (omega arith) h
used-put_run u i (b ∷ bs) a cs h =
    let e : max (max u (i + 1)) (i + 1 + length bs) ≡ max u (i + suc (length bs)) = omega arith in
    subst (λ n. IsUsedTo n (put_run i (b ∷ bs) a cs)) e (used-put_run (max u (i + 1)) (i + 1) bs a (set cs i (plain_cell b a)) (used-set u i (plain_cell b a) cs h))

put_run-sets : (i : ℕ) (bs : List ℕ) (a : Attributes) (cs : List CellValue) → sets cs i (map (λ b. plain_cell b a) bs) ≡ put_run i bs a cs
put_run-sets i [] a cs = refl
put_run-sets i (b ∷ bs) a cs = rw add-one (put_run-sets (suc i) bs a (set cs i (plain_cell b a)))

-- a run that is written to a slice of the list, from column i on
-- one more cell of a run is written
pub run_more : (k : ℕ) (a : Attributes) (cells : List CellValue) (run : List ℕ) → k < length cells → k < length run → take k cells ≡ map (λ b. plain_cell b a) (take k run) → take (k + 1) (set cells k (plain_cell (get_or run k 0) a)) ≡ map (λ b. plain_cell b a) (take (k + 1) run)
run_more k a cells run l m h =
    let b : ℕ = get_or run k 0 in
    take_more_set cells k (plain_cell b a) l
    ∙ ap (λ (xs : List CellValue). xs ++ plain_cell b a ∷ []) h
    ∙ sym (ap (map (λ b. plain_cell b a)) (take_more run k 0 m) ∙ map-append (λ b. plain_cell b a) (take k run) (b ∷ []))

pub put_run-part : (i n : ℕ) (bs : List ℕ) (a : Attributes) (cs ws : List CellValue) → i + length bs ≤ length cs → n ≡ length cs → ws ≡ map (λ b. plain_cell b a) bs → refill n cs (put_mid i (i + length bs - i) cs ws) ≡ put_run i bs a cs
put_run-part i n bs a cs ws l m w =
    let len : length ws ≡ length bs = ap length w ∙ length-map bs (λ b. plain_cell b a) in
    let k : i + length bs - i ≡ length ws = omega arith in
    let all : put_mid i (i + length bs - i) cs ws ≡ sets cs i ws = rw (k, drop-drop) (sym (sets-eq ws cs i (omega arith) ∙ append_assoc (take i cs) ws (drop (i + length ws) cs))) in
    let same : sets cs i ws ≡ put_run i bs a cs = ap (sets cs i) w ∙ put_run-sets i bs a cs in
    take_at (put_mid i (i + length bs - i) cs ws) _ n (ap length all ∙ length-sets cs i ws ∙ sym m) ∙ all ∙ same

-- one more copy of a cell is put
copies_next : (k i : ℕ) (b : ℕ) (a : Attributes) (cs : List CellValue) → set (put_run i (replicate k b) a cs) (i + k) (plain_cell b a) ≡ put_run i (replicate (suc k) b) a cs
copies_next zero i b a cs = rw (add-zero i) refl
copies_next (suc k) i b a cs =
    let here : i + suc k ≡ i + 1 + k = omega arith in
    rw here (copies_next k (i + 1) b a (set cs i (plain_cell b a)))

pub copies_more : (k i : ℕ) (b : ℕ) (a : Attributes) (cs : List CellValue) → set (put_run i (replicate k b) a cs) (i + k) (plain_cell b a) ≡ put_run i (replicate (k + 1) b) a cs
copies_more k i b a cs =
    let one : suc k ≡ k + 1 = omega arith in
    subst (λ (n : ℕ). set (put_run i (replicate k b) a cs) (i + k) (plain_cell b a) ≡ put_run i (replicate n b) a cs) one (copies_next k i b a cs)

pub length-copies : (i k : ℕ) (b : ℕ) (a : Attributes) (cs : List CellValue) → length (put_run i (replicate k b) a cs) ≡ length cs
length-copies i zero b a cs = refl
length-copies i (suc k) b a cs = length-copies (i + 1) k b a (set cs i (plain_cell b a)) ∙ length-set cs i (plain_cell b a)

-- a fill is a run of one character
pub fill-copies : (n i : ℕ) (b : ℕ) (a : Attributes) (cs : List CellValue) → set_run i (replicate n b) a cs ≡ fill n i (plain_cell b a) cs
fill-copies zero i b a cs = refl
fill-copies (suc n) i b a cs = fill-copies n (i + 1) b a (set_cell i (plain_cell b a) cs)

-- padded, torn once, and filled
pub filled-copies : (i k n : ℕ) (b : ℕ) (a : Attributes) (cs : List CellValue) → i < n → n ≡ i + k → put_run i (replicate k b) a (torn i (padded n cs)) ≡ fill k i (plain_cell b a) cs
filled-copies i k n b a cs l e = put_run-torn i n (replicate k b) a cs l (e ∙ ap (λ (j : ℕ). i + j) (sym (length-replicate k b))) ∙ fill-copies k i b a cs

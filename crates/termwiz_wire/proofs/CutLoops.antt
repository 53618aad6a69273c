-- Loops over pieces and their runs.
use Rattle.std.proofs.Common.{◌≡◌, ℕ, zero, suc, ◌-◌, ◌+◌, ◌*◌, ◌/◌, ◌≤◌, ◌<◌, Bool, true, false, not, cond, eqb, ◌&&◌, ◌||◌, List, [], ◌∷◌, length, take, drop, Option, Some, None, Result, Ok, Err, refl, sym, ap, ◌∙◌, arith}
use mathlib.Core.Bool.{beq}
use Rattle.std.specs.Prelude.{IfSome}
use Rattle.std.specs.Str.{chars}
use Rattle.cbor.specs.declared.error.FaultKind.{FaultKind}
use Rattle.cbor.specs.declared.error.FaultKind.TheVariants.{Range}
use Rattle.cbor.specs.declared.error.ReadError.{ReadError}
use Rattle.cbor.specs.Decoding.{◌>>=◌, Stop, Stops, ok, allowed, fault_of}
use Rattle.termwiz_wire.specs.Cuts.{is_piece, are_pieces, is_break, have_columns, are_at, is_run_at, no_run, run_at, runs_at, threes_at, cut_at, others_at, pieces_at, pieces_by, refused}
use Rattle.termwiz_wire.specs.Pieces.{stands_out, needs_pieces}
use Rattle.termwiz_wire.specs.declared.pieces.Run.{Run}

-- ---- pieces

pieces_some : (n size : ℕ) (cs : List ℕ) → are_pieces (suc n) size cs ≡ (is_piece (take size cs) (drop size cs) && are_pieces n size (drop size cs))
unfolding are_pieces
pieces_some n size cs = refl

pieces_none : (size : ℕ) (cs : List ℕ) → are_pieces zero size cs ≡ true
unfolding are_pieces
pieces_none size cs = refl

-- whether the piece at hand is one
abbrev is_one : (size : ℕ) (cs p rest : List ℕ) (b : Bool) → p ≡ take size cs → rest ≡ drop size cs → b ≡ is_piece p rest → is_piece (take size cs) (drop size cs) ≡ b
is_one size cs p rest b front back is = sym (is ∙ ap (λ (x : List ℕ). is_piece x rest) front ∙ ap (λ (x : List ℕ). is_piece (take size cs) x) back)

pieces_next : (count i size : ℕ) (cs : List ℕ) (b : Bool) → i < count → is_piece (take size cs) (drop size cs) ≡ b → are_pieces (count - i) size cs ≡ (b && are_pieces (count - (i + 1)) size (drop size cs))
pieces_next count i size cs b lt is =
    let k : count - i ≡ suc (count - (i + 1)) = omega arith in
    ap (λ (n : ℕ). are_pieces n size cs) k ∙ pieces_some (count - (i + 1)) size cs ∙ ap (λ (b : Bool). b && are_pieces (count - (i + 1)) size (drop size cs)) is

pub pieces_go_on : (count i size : ℕ) (cs p rest : List ℕ) (b total : Bool) → i < count → p ≡ take size cs → rest ≡ drop size cs → b ≡ is_piece p rest → b ≡ true → are_pieces (count - i) size cs ≡ total → are_pieces (count - (i + 1)) size rest ≡ total
pieces_go_on count i size cs p rest b total lt front back is one so_far =
    ap (λ (x : List ℕ). are_pieces (count - (i + 1)) size x) back ∙ (sym (pieces_next count i size cs true lt (is_one size cs p rest b front back is ∙ one)) ∙ so_far)

pub pieces_end : (count i size : ℕ) (cs p rest : List ℕ) (b total : Bool) → i < count → p ≡ take size cs → rest ≡ drop size cs → b ≡ is_piece p rest → b ≡ false → are_pieces (count - i) size cs ≡ total → false ≡ total
pieces_end count i size cs p rest b total lt front back is none so_far =
    sym (pieces_next count i size cs false lt (is_one size cs p rest b front back is ∙ none)) ∙ so_far

pub pieces_done : (count i size : ℕ) (cs : List ℕ) (total : Bool) → count ≤ i → are_pieces (count - i) size cs ≡ total → true ≡ total
pieces_done count i size cs total le so_far =
    let k : count - i ≡ 0 = omega arith in
    sym (ap (λ (n : ℕ). are_pieces n size cs) k ∙ pieces_none size cs) ∙ so_far

-- the next piece is there, and the others after it
pub room_for : (count i size len : ℕ) → i < count → (count - i) * size ≤ len → (size ≤ len) × ((rest : ℕ) → rest + size ≡ len → (count - (i + 1)) * size ≤ rest)
room_for count i size len lt within =
    let k : count - i ≡ suc (count - (i + 1)) = omega arith in
    let e : (count - i) * size ≡ suc (count - (i + 1)) * size = ap (λ (n : ℕ). n * size) k in
    (omega (arith, e), λ rest split. omega (arith, e))

columns_some : (wide : Bool) (n size : ℕ) (cs : List ℕ) → have_columns wide (suc n) size cs ≡ ((cond wide (not (is_break (take size cs))) (is_break (take size cs))) && have_columns wide n size (drop size cs))
unfolding have_columns
columns_some wide n size cs = refl

columns_none : (wide : Bool) (size : ℕ) (cs : List ℕ) → have_columns wide zero size cs ≡ true
unfolding have_columns
columns_none wide size cs = refl

-- whether the piece at hand has columns, or is a line break
abbrev fits : Bool → Bool → Bool
fits wide b = cond wide (not b) b

fits-is : (wide b f : Bool) → beq b wide ≡ f → fits wide b ≡ not f
fits-is true true f e = ap not e
fits-is true false f e = ap not e
fits-is false true f e = ap not e
fits-is false false f e = ap not e

columns_next : (wide : Bool) (count i size : ℕ) (cs p : List ℕ) (b f : Bool) → i < count → p ≡ take size cs → b ≡ is_break p → fits wide b ≡ f → have_columns wide (count - i) size cs ≡ (f && have_columns wide (count - (i + 1)) size (drop size cs))
columns_next wide count i size cs p b f lt front is e =
    let k : count - i ≡ suc (count - (i + 1)) = omega arith in
    let whole : fits wide (is_break (take size cs)) ≡ f = ap (λ (x : List ℕ). fits wide (is_break x)) (sym front) ∙ ap (λ (b : Bool). fits wide b) (sym is) ∙ e in
    ap (λ (n : ℕ). have_columns wide n size cs) k ∙ columns_some wide (count - (i + 1)) size cs ∙ ap (λ (b : Bool). b && have_columns wide (count - (i + 1)) size (drop size cs)) whole

pub columns_go_on : (wide : Bool) (count i size : ℕ) (cs p rest : List ℕ) (b total : Bool) → i < count → p ≡ take size cs → rest ≡ drop size cs → b ≡ is_break p → beq b wide ≡ false → have_columns wide (count - i) size cs ≡ total → have_columns wide (count - (i + 1)) size rest ≡ total
columns_go_on wide count i size cs p rest b total lt front back is ne so_far =
    ap (λ (x : List ℕ). have_columns wide (count - (i + 1)) size x) back ∙ (sym (columns_next wide count i size cs p b true lt front is (fits-is wide b false ne)) ∙ so_far)

pub columns_end : (wide : Bool) (count i size : ℕ) (cs p : List ℕ) (b total : Bool) → i < count → p ≡ take size cs → b ≡ is_break p → beq b wide ≡ true → have_columns wide (count - i) size cs ≡ total → false ≡ total
columns_end wide count i size cs p b total lt front is e so_far =
    sym (columns_next wide count i size cs p b false lt front is (fits-is wide b true e)) ∙ so_far

pub columns_done : (wide : Bool) (count i size : ℕ) (cs : List ℕ) (total : Bool) → count ≤ i → have_columns wide (count - i) size cs ≡ total → true ≡ total
columns_done wide count i size cs total le so_far =
    let k : count - i ≡ 0 = omega arith in
    sym (ap (λ (n : ℕ). have_columns wide n size cs) k ∙ columns_none wide size cs) ∙ so_far

-- ---- the same runs

pub are_none : (room : ℕ) (bytes : List ℕ) → are_at room [] bytes ≡ Ok (true, bytes)
unfolding are_at
are_none room bytes = refl

abbrev pub after_same : ℕ → List Run → Bool × List ℕ → Result (Bool × List ℕ) Stop
after_same room rs is = cond is.0 (are_at room rs is.1) (ok false is.1)

are_some : (room : ℕ) (r : Run) (rs : List Run) (bytes : List ℕ) → are_at room (r ∷ rs) bytes ≡ (is_run_at room r bytes >>= after_same room rs)
unfolding are_at
are_some room r rs bytes = refl

pub are_next : (room : ℕ) (left rs : List Run) (r : Run) (bytes : List ℕ) (read : Result (Bool × List ℕ) Stop) → left ≡ r ∷ rs → is_run_at room r bytes ≡ read → are_at room left bytes ≡ (read >>= after_same room rs)
are_next room left rs r bytes read e is =
    ap (λ (x : List Run). are_at room x bytes) e ∙ are_some room r rs bytes ∙ ap (λ (x : Result (Bool × List ℕ) Stop). x >>= after_same room rs) is

pub are_go_on : (room : ℕ) (left rs : List Run) (r : Run) (bytes after : List ℕ) (b : Bool) (total : Result (Bool × List ℕ) Stop) → left ≡ r ∷ rs → b ≡ true → is_run_at room r bytes ≡ Ok (b, after) → are_at room left bytes ≡ total → are_at room rs after ≡ total
are_go_on room left rs r bytes after b total e same is so_far =
    sym (are_next room left rs r bytes (Ok (true, after)) e (is ∙ ap (λ (b : Bool). Ok (b, after)) same)) ∙ so_far

pub are_differ : (room : ℕ) (left rs : List Run) (r : Run) (bytes after : List ℕ) (b : Bool) (total : Result (Bool × List ℕ) Stop) → left ≡ r ∷ rs → b ≡ false → is_run_at room r bytes ≡ Ok (b, after) → are_at room left bytes ≡ total → total ≡ Ok (false, after)
are_differ room left rs r bytes after b total e other is so_far =
    sym so_far ∙ are_next room left rs r bytes (Ok (false, after)) e (is ∙ ap (λ (b : Bool). Ok (b, after)) other)

are_stop_with : (f : Option FaultKind) (place room : ℕ) (left rs : List Run) (r : Run) (bytes : List ℕ) (total : Result (Bool × List ℕ) Stop) → left ≡ r ∷ rs → IfSome f (λ f. is_run_at room r bytes ≡ Err (record { fault = f; left = place })) → are_at room left bytes ≡ total → IfSome f (λ f. total ≡ Err (record { fault = f; left = place }))
are_stop_with None place room left rs r bytes total e is so_far = tt
are_stop_with (Some f) place room left rs r bytes total e is so_far =
    sym so_far ∙ are_next room left rs r bytes (Err (record { fault = f; left = place })) e is

pub are_stop : (place room : ℕ) (e : ReadError) (left rs : List Run) (r : Run) (bytes : List ℕ) (total : Result (Bool × List ℕ) Stop) → left ≡ r ∷ rs → Stops place e (is_run_at room r bytes) → are_at room left bytes ≡ total → Stops place e total
are_stop place room e = are_stop_with (fault_of e) place room

pub are_done : (room : ℕ) (left : List Run) (bytes : List ℕ) (total : Result (Bool × List ℕ) Stop) → left ≡ [] → are_at room left bytes ≡ total → total ≡ Ok (true, bytes)
are_done room left bytes total e so_far = sym so_far ∙ ap (λ (x : List Run). are_at room x bytes) e ∙ are_none room bytes

-- ---- runs

pub runs_none : (room : ℕ) (last : Run) (needed : Bool) (cs bytes : List ℕ) → runs_at room last needed cs zero bytes ≡ Ok (needed && eqb (length cs) 0, bytes)
unfolding runs_at
runs_none room last needed cs bytes = refl

pub runs_some : (room : ℕ) (last : Run) (needed : Bool) (cs : List ℕ) (n : ℕ) (bytes : List ℕ) → runs_at room last needed cs (suc n) bytes ≡ (run_at room last cs bytes >>= λ r. runs_at room r.0 (needed || stands_out r.0) (drop (r.0.count * r.0.characters) cs) n r.1)
unfolding runs_at
runs_some room last needed cs n bytes = refl

abbrev after_run : ℕ → Bool → List ℕ → ℕ → Run × List ℕ → Result (Bool × List ℕ) Stop
after_run room needed cs n r = runs_at room r.0 (needed || stands_out r.0) (drop (r.0.count * r.0.characters) cs) n r.1

pub runs_go_on : (room : ℕ) (last : Run) (needed : Bool) (cs : List ℕ) (count i : ℕ) (bytes : List ℕ) (r : Run) (after : List ℕ) (total : Result (Bool × List ℕ) Stop) → i < count → run_at room last cs bytes ≡ Ok (r, after) → runs_at room last needed cs (count - i) bytes ≡ total → runs_at room r (needed || stands_out r) (drop (r.count * r.characters) cs) (count - (i + 1)) after ≡ total
runs_go_on room last needed cs count i bytes r after total lt is so_far =
    let k : count - i ≡ suc (count - (i + 1)) = omega arith in
    let one : runs_at room last needed cs (count - i) bytes ≡ after_run room needed cs (count - (i + 1)) (r, after) = ap (λ (n : ℕ). runs_at room last needed cs n bytes) k ∙ runs_some room last needed cs (count - (i + 1)) bytes ∙ ap (λ (x : Result (Run × List ℕ) Stop). x >>= after_run room needed cs (count - (i + 1))) is in
    sym one ∙ so_far

runs_end_with : (f : Option FaultKind) (left room : ℕ) (last : Run) (needed : Bool) (cs : List ℕ) (count i : ℕ) (bytes : List ℕ) (total : Result (Bool × List ℕ) Stop) → i < count → IfSome f (λ f. run_at room last cs bytes ≡ Err (record { fault = f; left = left })) → runs_at room last needed cs (count - i) bytes ≡ total → IfSome f (λ f. total ≡ Err (record { fault = f; left = left }))
runs_end_with None left room last needed cs count i bytes total lt is so_far = tt
runs_end_with (Some f) left room last needed cs count i bytes total lt is so_far =
    let k : count - i ≡ suc (count - (i + 1)) = omega arith in
    let one : runs_at room last needed cs (count - i) bytes ≡ Err (record { fault = f; left = left }) = ap (λ (n : ℕ). runs_at room last needed cs n bytes) k ∙ runs_some room last needed cs (count - (i + 1)) bytes ∙ ap (λ (x : Result (Run × List ℕ) Stop). x >>= after_run room needed cs (count - (i + 1))) is in
    sym so_far ∙ one

pub runs_end : (left room : ℕ) (e : ReadError) (last : Run) (needed : Bool) (cs : List ℕ) (count i : ℕ) (bytes : List ℕ) (total : Result (Bool × List ℕ) Stop) → i < count → Stops left e (run_at room last cs bytes) → runs_at room last needed cs (count - i) bytes ≡ total → Stops left e total
runs_end left room e = runs_end_with (fault_of e) left room

pub runs_done : (room : ℕ) (last : Run) (needed : Bool) (cs : List ℕ) (count i : ℕ) (bytes : List ℕ) (total : Result (Bool × List ℕ) Stop) → count ≤ i → runs_at room last needed cs (count - i) bytes ≡ total → total ≡ Ok (needed && eqb (length cs) 0, bytes)
runs_done room last needed cs count i bytes total le so_far =
    let k : count - i ≡ 0 = omega arith in
    sym so_far ∙ ap (λ (n : ℕ). runs_at room last needed cs n bytes) k ∙ runs_none room last needed cs bytes

-- ---- the rules of a text's pieces

abbrev pub whole : ℕ → List ℕ → Bool × List ℕ → Result (List ℕ) Stop
whole room bytes all = cond all.0 (Ok all.1) (refused Range room bytes)

pub cut_threes : (room : ℕ) (text bytes : List ℕ) → cut_at room text bytes ≡ (threes_at room bytes >>= λ n. runs_at room no_run false (chars text) (n.0 / 3) n.1 >>= whole room bytes)
unfolding cut_at
cut_threes room text bytes = refl

cut_is : (room later : ℕ) (text bytes cs : List ℕ) (count : ℕ) (after : List ℕ) (read : Result (Bool × List ℕ) Stop) → later ≡ room → cs ≡ chars text → threes_at room bytes ≡ Ok (count, after) → runs_at later no_run false cs (count / 3) after ≡ read → cut_at room text bytes ≡ (read >>= whole room bytes)
cut_is room later text bytes cs count after read same are threes is =
    cut_threes room text bytes
    ∙ ap (λ (r : Result (ℕ × List ℕ) Stop). r >>= λ n. runs_at room no_run false (chars text) (n.0 / 3) n.1 >>= whole room bytes) threes
    ∙ ap (λ (k : ℕ). runs_at k no_run false (chars text) (count / 3) after >>= whole room bytes) (sym same)
    ∙ ap (λ (x : List ℕ). runs_at later no_run false x (count / 3) after >>= whole room bytes) (sym are)
    ∙ ap (λ (r : Result (Bool × List ℕ) Stop). r >>= whole room bytes) is

pub cut_all : (room later : ℕ) (text bytes cs : List ℕ) (count : ℕ) (after : List ℕ) (b : Bool) (rest : List ℕ) → later ≡ room → cs ≡ chars text → threes_at room bytes ≡ Ok (count, after) → runs_at later no_run false cs (count / 3) after ≡ Ok (b, rest) → b ≡ true → cut_at room text bytes ≡ Ok rest
cut_all room later text bytes cs count after b rest same are threes is all =
    cut_is room later text bytes cs count after (Ok (true, rest)) same are threes (is ∙ ap (λ (b : Bool). Ok (b, rest)) all)

pub cut_not : (room later : ℕ) (text bytes cs : List ℕ) (count : ℕ) (after : List ℕ) (b : Bool) (rest : List ℕ) → later ≡ room → cs ≡ chars text → threes_at room bytes ≡ Ok (count, after) → runs_at later no_run false cs (count / 3) after ≡ Ok (b, rest) → b ≡ false → cut_at room text bytes ≡ Err (record { fault = Range; left = allowed room bytes })
cut_not room later text bytes cs count after b rest same are threes is all =
    cut_is room later text bytes cs count after (Ok (false, rest)) same are threes (is ∙ ap (λ (b : Bool). Ok (b, rest)) all)

cut_stop_with : (f : Option FaultKind) (left room later : ℕ) (text bytes cs : List ℕ) (count : ℕ) (after : List ℕ) → later ≡ room → cs ≡ chars text → threes_at room bytes ≡ Ok (count, after) → IfSome f (λ f. runs_at later no_run false cs (count / 3) after ≡ Err (record { fault = f; left = left })) → IfSome f (λ f. cut_at room text bytes ≡ Err (record { fault = f; left = left }))
cut_stop_with None left room later text bytes cs count after same are threes is = tt
cut_stop_with (Some f) left room later text bytes cs count after same are threes is =
    cut_is room later text bytes cs count after (Err (record { fault = f; left = left })) same are threes is

pub cut_stop : (left : ℕ) (e : ReadError) (room later : ℕ) (text bytes cs : List ℕ) (count : ℕ) (after : List ℕ) → later ≡ room → cs ≡ chars text → threes_at room bytes ≡ Ok (count, after) → Stops left e (runs_at later no_run false cs (count / 3) after) → Stops left e (cut_at room text bytes)
cut_stop left e = cut_stop_with (fault_of e) left

pub pieces_unneeded : (room place count : ℕ) (text : List ℕ) (rs : List Run) (bytes : List ℕ) → count ≡ 3 → needs_pieces rs ≡ false → pieces_by room place count text rs bytes ≡ others_at room place text bytes
unfolding pieces_by pieces_at
pieces_unneeded room place count text rs bytes three none = rw (three, none) refl

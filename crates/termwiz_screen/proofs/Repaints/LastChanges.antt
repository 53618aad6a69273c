-- The last of a list of changes: moves that are dropped, and a clear that is joined.
use Rattle.std.proofs.Common.{◌≡◌, ℕ, ◌+◌, ◌<◌, Bool, true, false, cond, ◌&&◌, List, [], ◌∷◌, ◌++◌, map, length, Option, Some, None, arith, append-nil, append_assoc, refl, sym, ap, ap₂, ◌∙◌}
use Rattle.std.specs.Prelude.{◌==◌}
use Rattle.std.specs.Option.{option_to_list, MatchOption}
use Rattle.std.proofs.lemmas.Bool.{true≢false, eq-eqb, ne_eqb, and_from, and_left, and_right, cond-true, cond-false}
use Rattle.std.proofs.lemmas.List.{map-append}
use Rattle.std.proofs.lemmas.Bool.Decides.{same_from_decides}
use Rattle.termwiz_cell.specs.declared.color.ColorAttribute.{ColorAttribute}
use Rattle.termwiz_cell.specs.Attributes.{Attributes, attributes_eq, attributes_eq-Decides, with_background, has_only_background, color_eq, color_eq-Decides}
use Rattle.termwiz_cell.specs.ChangeValue as change
use Rattle.termwiz_cell.specs.ChangeValue.{ChangeValue, is_text}
use Rattle.termwiz_cell.specs.declared.change.Change.{Change}
use Rattle.termwiz_line.specs.LastChange.{last_is}
use Rattle.termwiz_line.specs.GrowingText.{IsLastOf}
use Rattle.termwiz_screen.specs.Drawing.{clears, AreApart}
use Rattle.termwiz_screen.specs.Repaint.{is_clear_of, ends_with, front_of, is_move, all_moves, without_last_moves, is_nil, started_entries, title_entry, lines_upto, full_entries}
use Rattle.termwiz_screen.specs.Place.{cursor_at}
use Rattle.termwiz_cell.specs.declared.change.LineAttribute.{LineAttribute}

pub ends_with_last : (a : Attributes) (es : List ChangeValue) → last_is (is_clear_of a) es ≡ ends_with a es
ends_with_last a [] = refl
ends_with_last a (e ∷ []) = refl
ends_with_last a (e ∷ (f ∷ es)) = ends_with_last a (f ∷ es)

pub some_change : (test : ChangeValue → Bool) (es : List ChangeValue) → last_is test es ≡ true → 0 < length es
some_change test [] h = absurd cc
some_change test (e ∷ es) h = omega arith

pub front_pushed : (es : List ChangeValue) (e : ChangeValue) → front_of (es ++ e ∷ []) ≡ es
front_pushed [] e = refl
front_pushed (f ∷ []) e = refl
front_pushed (f ∷ (g ∷ es)) e = ap (λ l. f ∷ l) (front_pushed (g ∷ es) e)

-- moves at the end
front_moves : (es : List ChangeValue) → last_is is_move es ≡ true → all_moves (front_of es) ≡ all_moves es
front_moves [] h = refl
front_moves (e ∷ []) h = sym (and_from (is_move e) true h refl)
front_moves (e ∷ (f ∷ es)) h = ap (λ b. is_move e && b) (front_moves (f ∷ es) h)

pub move_dropped : (es : List ChangeValue) → last_is is_move es ≡ true → without_last_moves (front_of es) ≡ without_last_moves es
move_dropped [] h = refl
move_dropped (e ∷ []) h = sym (cond-true (is_move e && true) [] (e ∷ []) (and_from (is_move e) true h refl))
move_dropped (e ∷ (f ∷ es)) h = ap₂ (λ b l. cond (is_move e && b) [] (e ∷ l)) (front_moves (f ∷ es) h) (move_dropped (f ∷ es) h)

not_moves : (es : List ChangeValue) → last_is is_move es ≡ false → 0 < length es → all_moves es ≡ false
not_moves [] h l = absurd (omega arith)
not_moves (e ∷ []) h l = and_left (is_move e) true h
not_moves (e ∷ (f ∷ es)) h l = and_right (is_move e) (all_moves (f ∷ es)) (not_moves (f ∷ es) h (omega arith))

pub no_last_move : (es : List ChangeValue) → last_is is_move es ≡ false → without_last_moves es ≡ es
no_last_move [] h = refl
no_last_move (e ∷ []) h = cond-false (is_move e && true) [] (e ∷ []) (and_left (is_move e) true h)
no_last_move (e ∷ (f ∷ es)) h =
    cond-false (all_moves (e ∷ (f ∷ es))) [] (e ∷ without_last_moves (f ∷ es)) (not_moves (e ∷ (f ∷ es)) h (omega arith))
    ∙ ap (λ l. e ∷ l) (no_last_move (f ∷ es) h)

-- the last of a list is taken
pub front_popped : {X : Type 0} (f : X → ChangeValue) (old new : List X) (o : Option X) (n m : ℕ) → old ≡ new ++ option_to_list o → length old ≡ n → MatchOption o ((n ≡ 0) × (m ≡ 0)) (λ x. m + 1 ≡ n) → map f new ≡ front_of (map f old)
front_popped f [] new None n m e l h = ap (map f) (sym (e ∙ append-nil new))
front_popped f (x ∷ xs) new None n m e l h = absurd (omega (arith, l, h.0))
front_popped f old new (Some x) n m e l h = sym (ap front_of (ap (map f) e ∙ map-append f new (x ∷ [])) ∙ front_pushed (map f new) (f x))

-- a clear of a line gives plain attributes where it has their background
pub plain_clear : (a : Attributes) (color : ColorAttribute) → has_only_background a ≡ true → color_eq color a.background ≡ is_clear_of a (change.ClearToEndOfLine color)
plain_clear a color h = same_from_decides {P = color ≡ a.background} (color_eq color a.background) (attributes_eq (with_background color) a) (color_eq-Decides color a.background) (background, whole)
  where
    background : attributes_eq (with_background color) a ≡ true → color ≡ a.background
    background e = ap (λ (b : Attributes). b.background) ((attributes_eq-Decides (with_background color) a).0 e)

    whole : color ≡ a.background → attributes_eq (with_background color) a ≡ true
    whole e = (attributes_eq-Decides (with_background color) a).1 (ap with_background e ∙ sym ((attributes_eq-Decides a (with_background a.background)).0 h))

pub nothing_more : (n : ℕ) (es : List ChangeValue) → n ≡ 2 + length es → (n == 2) ≡ is_nil es
nothing_more n [] e = eq-eqb n 2 (omega arith)
nothing_more n (x ∷ xs) e = ne_eqb n 2 (omega arith)

-- the last entry, as far as it is no text, tells whether the line is cleared
pub clears_is : (a : Attributes) (es : List ChangeValue) (o : Option Change) → IsLastOf es o → clears a o ≡ last_is (is_clear_of a) es
clears_is a es None h = sym (h (is_clear_of a) (λ text. refl))
clears_is a es (Some e) h = sym (h (is_clear_of a))

-- after other entries
last_behind : (test : ChangeValue → Bool) (first : List ChangeValue) (e : ChangeValue) (es : List ChangeValue) → last_is test (first ++ e ∷ es) ≡ last_is test (e ∷ es)
last_behind test [] e es = refl
last_behind test (f ∷ []) e es = refl
last_behind test (f ∷ (g ∷ first)) e es = last_behind test (g ∷ first) e es

pub ends_behind_first : (a : Attributes) (first : List ChangeValue) (es : List ChangeValue) → AreApart first → last_is (is_clear_of a) (first ++ es) ≡ ends_with a es
ends_behind_first a first [] h = ap (last_is (is_clear_of a)) (append-nil first) ∙ h.no_clear a
ends_behind_first a first (e ∷ es) h = last_behind (is_clear_of a) first e es ∙ ends_with_last a (e ∷ es)

front_behind : (first : List ChangeValue) (e : ChangeValue) (es : List ChangeValue) → front_of (first ++ e ∷ es) ≡ first ++ front_of (e ∷ es)
front_behind [] e es = refl
front_behind (f ∷ []) e es = refl
front_behind (f ∷ (g ∷ first)) e es = ap (λ l. f ∷ l) (front_behind (g ∷ first) e es)

pub front_behind_first : (a : Attributes) (first : List ChangeValue) (es : List ChangeValue) → ends_with a es ≡ true → front_of (first ++ es) ≡ first ++ front_of es
front_behind_first a first [] h = absurd (true≢false (sym h))
front_behind_first a first (e ∷ es) h = front_behind first e es

-- the first entries of a repaint, of which the last is a clear of the screen or a title, and those of a full one, of which it is a move
pub first_apart : (title : List ℕ) → AreApart (started_entries ++ title_entry title)
first_apart [] = record { no_text = refl; no_clear = λ a. refl }
first_apart (b ∷ bs) = record { no_text = refl; no_clear = λ a. refl }

pub full_apart : (title : List ℕ) (color : ColorAttribute) (lines : List LineAttribute) → AreApart (started_entries ++ full_entries title color lines)
full_apart title color lines =
    let first = started_entries ++ (change.Title title ∷ change.CursorColor color ∷ lines_upto lines (length lines)) in
    record { no_text = last_behind is_text first (cursor_at 0 0) []; no_clear = λ a. last_behind (is_clear_of a) first (cursor_at 0 0) [] }

-- lists appended one after another
pub all_pushed : (a b d e f : List ChangeValue) → (((a ++ b) ++ d) ++ e) ++ f ≡ a ++ (b ++ (d ++ (e ++ f)))
all_pushed a b d e f = simp append_assoc

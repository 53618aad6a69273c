-- Texts after entries: they join the last one, or begin after it.
use Rattle.std.proofs.Common.{◌≡◌, ℕ, ◌-◌, Bool, true, false, cond, ◌&&◌, List, [], ◌∷◌, ◌++◌, map, length, Option, Some, None, subst, refl, sym, ap, ◌∙◌, append_assoc, inl, inr}
use Rattle.std.specs.Prelude.{IsTrue, ◌↔◌, slice_get}
use Rattle.std.specs.Cmp.Lexicographic.{pointwise_decides, bytes_decides}
use Rattle.std.proofs.lemmas.Bool.{cases_Bool, true≢false, and_parts, and_from}
use Rattle.unicode_segmentation.specs.Grapheme.{graphemes}
use Rattle.termwiz_text.specs.Plain.{is_plain, is_plain_last}
use Rattle.termwiz_text.proofs.Seam.{one_plain_last}
use Rattle.termwiz_cell.specs.ChangeValue as change
use Rattle.termwiz_cell.specs.declared.change.Change.{Change}
use Rattle.termwiz_cell.specs.ChangeValue.{ChangeValue, change_value, is_text}
use Rattle.termwiz_line.specs.Entries.{joins, join, add_text}
use Rattle.termwiz_line.specs.LastChange.{last_is}
use Rattle.termwiz_line.specs.GrowingText.{ends_printable, with_text, IsLastOf}
use Rattle.termwiz_line.proofs.LastChange.{last_pushed, last_of, last_of_none}

-- a text after the last entry
pub add_text_push : (es : List ChangeValue) (e : ChangeValue) (text : List ℕ) → add_text (es ++ e ∷ []) text ≡ es ++ join e text
add_text_push [] e text = refl
add_text_push (d ∷ []) e text = refl
add_text_push (d ∷ (c ∷ es)) e text = ap (λ l. d ∷ l) (add_text_push (c ∷ es) e text)

-- after an entry that is no text, a text begins
join_apart : (e : ChangeValue) (text : List ℕ) → is_text e ≡ false → join e text ≡ e ∷ change.Text text ∷ []
join_apart (change.Text t) text h = absurd (true≢false h)
join_apart _ text h = refl

pub add_text_apart : (es : List ChangeValue) (text : List ℕ) → last_is is_text es ≡ false → add_text es text ≡ es ++ change.Text text ∷ []
add_text_apart [] text h = refl
add_text_apart (e ∷ []) text h = join_apart e text h
add_text_apart (e ∷ (f ∷ es)) text h = ap (λ l. e ∷ l) (add_text_apart (f ∷ es) text h)

-- entries that end in no text are not touched
pub add_text_behind : (es ds : List ChangeValue) (text : List ℕ) → last_is is_text es ≡ false → add_text (es ++ ds) text ≡ es ++ add_text ds text
add_text_behind [] ds text h = refl
add_text_behind (e ∷ []) [] text h = join_apart e text h
add_text_behind (e ∷ []) (d ∷ ds) text h = refl
add_text_behind (e ∷ (f ∷ es)) ds text h = ap (λ l. e ∷ l) (add_text_behind (f ∷ es) ds text h)

ends_more : (test : ChangeValue → Bool) (e : ChangeValue) (ds : List ChangeValue) → last_is test ds ≡ true → last_is test (e ∷ ds) ≡ true
ends_more test e [] h = absurd (true≢false (sym h))
ends_more test e (d ∷ ds) h = h

-- entries with a text after them end in one
pub ends_with_added : (es : List ChangeValue) (text : List ℕ) → last_is is_text (add_text es text) ≡ true
ends_with_added [] text = refl
ends_with_added (change.Text t ∷ []) text = elim (joins t text) as (λ b. last_is is_text (cond b (change.Text (t ++ text) ∷ []) (change.Text t ∷ change.Text text ∷ [])) ≡ true) [ true ↦ refl | false ↦ refl ]
ends_with_added (_ ∷ []) text = refl
ends_with_added (e ∷ (f ∷ [])) text = ends_more is_text e (add_text (f ∷ []) text) (ends_with_added (f ∷ []) text)
ends_with_added (e ∷ (f ∷ (g ∷ es))) text = ends_with_added (f ∷ (g ∷ es)) text

-- the test that cuts again decides the joining
pub joins_is : (b : Bool) (before text : List ℕ) → IsTrue b ↔ (graphemes true (before ++ text) ≡ graphemes true before ++ text ∷ []) → b ≡ joins before text
joins_is true before text h = sym ((pointwise_decides bytes_decides (graphemes true (before ++ text)) (graphemes true before ++ text ∷ [])).1 (h.0 refl))
joins_is false before text h = elim (cases_Bool (joins before text)) [
  | inl t ↦ absurd (true≢false (sym (h.1 ((pointwise_decides bytes_decides (graphemes true (before ++ text)) (graphemes true before ++ text ∷ [])).0 t))))
  | inr n ↦ sym n
]

-- the entries end in a text where one grows
pub ends_growing : (es : List ChangeValue) (grows : Bool) (text : List ℕ) → (grows ≡ false → last_is is_text es ≡ false) → grows ≡ last_is is_text (with_text es grows text)
ends_growing es true text h = sym (last_pushed is_text es (change.Text text))
ends_growing es false text h = sym (h refl)

-- the last entry
pub no_last : (es : List ChangeValue) (grows : Bool) (text : List ℕ) → grows ≡ true → IsLastOf (with_text es grows text) None
no_last es grows text g test h = ap (λ b. last_is test (cond b (es ++ change.Text text ∷ []) es)) g ∙ last_pushed test es (change.Text text) ∙ h text

pub some_last : (xs : List Change) (o : Option Change) → o ≡ slice_get xs (length xs - 1) → IsLastOf (map change_value xs) o
some_last xs None e = λ test h. last_of_none test change_value xs (sym e)
some_last xs (Some x) e = λ test. last_of test change_value xs x (sym e)

pub last_of_pushed : (xs : List Change) (grows : Bool) (text : List ℕ) (o : Option Change) → grows ≡ false → o ≡ slice_get xs (length xs - 1) → IsLastOf (with_text (map change_value xs) grows text) o
last_of_pushed xs grows text o g e = subst (λ b. IsLastOf (cond b (map change_value xs ++ change.Text text ∷ []) (map change_value xs)) o) (sym g) (some_last xs o e)

-- a text that joins the growing one
pub joined : (es : List ChangeValue) (grows : Bool) (text more new : List ℕ) → (grows && joins text more) ≡ true → new ≡ text ++ more → with_text es grows new ≡ add_text (with_text es grows text) more
joined es false text more new j e = absurd (true≢false (sym j))
joined es true text more new j e =
    ap (λ t. es ++ change.Text t ∷ []) e
    ∙ sym (add_text_push es (change.Text text) more ∙ ap (λ b. es ++ cond b (change.Text (text ++ more) ∷ []) (change.Text text ∷ change.Text more ∷ [])) j)

-- a text that begins after the growing one
pub apart : (es : List ChangeValue) (grows : Bool) (text more : List ℕ) → (grows && joins text more) ≡ false → (grows ≡ false → last_is is_text es ≡ false) → with_text es grows text ++ change.Text more ∷ [] ≡ add_text (with_text es grows text) more
apart es false text more j h = sym (add_text_apart es more (h refl))
apart es true text more j h =
    append_assoc es (change.Text text ∷ []) (change.Text more ∷ [])
    ∙ sym (add_text_push es (change.Text text) more ∙ ap (λ b. es ++ cond b (change.Text (text ++ more) ∷ []) (change.Text text ∷ change.Text more ∷ [])) j)

-- where the last entry ends in printable ASCII, it is a text that grows
no_text_ends : (es : List ChangeValue) → last_is is_text es ≡ false → last_is ends_printable es ≡ false
no_text_ends [] h = refl
no_text_ends (change.Text t ∷ []) h = absurd (true≢false h)
no_text_ends (_ ∷ []) h = refl
no_text_ends (e ∷ (f ∷ es)) h = no_text_ends (f ∷ es) h

pub ends_where : (es : List ChangeValue) (grows : Bool) (text : List ℕ) → (grows ≡ false → last_is is_text es ≡ false) → last_is ends_printable (with_text es grows text) ≡ (grows && is_plain_last text)
ends_where es true text h = last_pushed ends_printable es (change.Text text)
ends_where es false text h = no_text_ends es (h refl)

-- a character of printable ASCII joins it
pub plain_joined : (es : List ChangeValue) (grows : Bool) (text : List ℕ) (b : ℕ) → (grows ≡ false → last_is is_text es ≡ false) → last_is ends_printable (with_text es grows text) ≡ true → graphemes true (text ++ b ∷ []) ≡ graphemes true text ++ (b ∷ []) ∷ []
    → with_text es grows (text ++ b ∷ []) ≡ add_text (with_text es grows text) (b ∷ [])
plain_joined es grows text b h ends g =
    let parts = and_parts grows (is_plain_last text) (sym (ends_where es grows text h) ∙ ends) in
    let j : joins text (b ∷ []) ≡ true = sym (joins_is true text (b ∷ []) ((λ _. g), (λ _. refl))) in
    joined es grows text (b ∷ []) (text ++ b ∷ []) (and_from grows (joins text (b ∷ [])) parts.0 j) refl

-- a character of printable ASCII leaves such an entry
pub ends_with_plain : (es : List ChangeValue) (b : ℕ) → is_plain b ≡ true → last_is ends_printable (add_text es (b ∷ [])) ≡ true
ends_with_plain [] b h = one_plain_last [] (b ∷ []) h
ends_with_plain (change.Text t ∷ []) b h = elim (joins t (b ∷ [])) as (λ j. last_is ends_printable (cond j (change.Text (t ++ b ∷ []) ∷ []) (change.Text t ∷ change.Text (b ∷ []) ∷ [])) ≡ true) [
  | true ↦ one_plain_last t (b ∷ []) h
  | false ↦ one_plain_last [] (b ∷ []) h
]
ends_with_plain (_ ∷ []) b h = one_plain_last [] (b ∷ []) h
ends_with_plain (e ∷ (f ∷ [])) b h = ends_more ends_printable e (add_text (f ∷ []) (b ∷ [])) (ends_with_plain (f ∷ []) b h)
ends_with_plain (e ∷ (f ∷ (g ∷ es))) b h = ends_with_plain (f ∷ (g ∷ es)) b h

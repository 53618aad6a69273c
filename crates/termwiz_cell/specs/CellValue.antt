-- A cell, as contracts see it: a text, whether it takes two columns, and attributes.
use Rattle.std.specs.Prelude.{◌≡◌, ℕ, Bool, false, ◌&&◌, ◌||◌, ◌==◌, nat_lt, List, [], ◌∷◌, length, bytes_eq, if◌then◌else◌}
use Rattle.std.specs.Bool.{Decides, beq}
use Rattle.std.specs.Cmp.{booleans_Decides}
use Rattle.std.specs.Cmp.Lexicographic.{bytes_decides}
use Rattle.std.proofs.lemmas.Bool.Decides.{Decides-like, Decides-and}
use Rattle.termwiz_cell.specs.Attributes.{Attributes, default_attributes, attributes_eq, attributes_eq-Decides, needs_box}

pub record CellValue : Type 0 where
  pub text : List ℕ
  pub wide : Bool
  pub attrs : Attributes

-- one space
abbrev pub space : List ℕ
space = 32 ∷ []

-- a space of one column with these attributes
abbrev pub blank_of : Attributes → CellValue
blank_of a = record { text = space; wide = false; attrs = a }

-- a space of one column with default attributes
abbrev pub blank : CellValue
blank = blank_of default_attributes

-- the cell of one column whose text is this one byte
abbrev pub plain_cell : ℕ → Attributes → CellValue
plain_cell byte a = record { text = byte ∷ []; wide = false; attrs = a }

-- what is stored after a wide cell: a blank with its attributes
abbrev pub half : CellValue → CellValue
half c = blank_of c.attrs

abbrev pub is_wide : CellValue → Bool
is_wide c = c.wide

-- a cell owns memory for a text of more than seven bytes, and for attributes that take memory
abbrev pub owns_memory : CellValue → Bool
owns_memory c = nat_lt 7 (length c.text) || needs_box c.attrs

-- how many columns a cell takes
abbrev pub columns : CellValue → ℕ
columns c = if c.wide then 2 else 1

-- whether a byte is a control character of ASCII
abbrev pub is_control : ℕ → Bool
is_control b = nat_lt b 32 || b == 127

-- the text of a cell: the empty text, CR LF and a single control character of ASCII become a space,
-- and any other text stays
abbrev pub clean : List ℕ → List ℕ
clean [] = space
clean (b ∷ []) = if is_control b then space else b ∷ []
clean (b ∷ (c ∷ t)) = if bytes_eq (b ∷ (c ∷ t)) (13 ∷ 10 ∷ []) then space else b ∷ (c ∷ t)

-- the cell of a text that was given a width: a width of zero becomes one, and one above two becomes
-- two
abbrev pub cell_of : List ℕ → ℕ → Attributes → CellValue
cell_of text width attrs = record { text = clean text; wide = nat_lt 1 width; attrs = attrs }

-- the cell of a text whose width is measured once the text is clean
abbrev pub measured : (List ℕ → ℕ) → List ℕ → Attributes → CellValue
measured width text attrs = cell_of text (width (clean text)) attrs

-- `==` of cells
abbrev pub cell_eq : CellValue → CellValue → Bool
cell_eq a b = bytes_eq a.text b.text && (beq a.wide b.wide && attributes_eq a.attrs b.attrs)

pub cell_eq-Decides : (a b : CellValue) → Decides (cell_eq a b) (a ≡ b)
cell_eq-Decides a b =
    Decides-like (cell_eq a b)
    (λ e i. record { text = e.0 i; wide = e.1.0 i; attrs = e.1.1 i })
    (λ e. ((λ i. (e i).text), ((λ i. (e i).wide), (λ i. (e i).attrs))))
    (Decides-and _ _ (bytes_decides a.text b.text)
    (Decides-and _ _ (booleans_Decides a.wide b.wide) (attributes_eq-Decides a.attrs b.attrs)))

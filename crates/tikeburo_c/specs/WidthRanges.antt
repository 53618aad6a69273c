-- Tables of widths: what makes ranges one, and how wide texts are by it.
use Rattle.std.specs.List.{list_any}
use Rattle.std.specs.Prelude.{ℕ, ◌+◌, Bool, true, false, ◌&&◌, ◌||◌, ◌==◌, nat_lt, nat_le, List, [], ◌∷◌, Option, Some, None, unwrap_or, is_some, min, sum_by, chars, if◌then◌else◌}
use Rattle.termwiz_cell.specs.Width.{unicode_columns}
use Rattle.unicode_width.specs.Width.{char_width}
use Rattle.tikeburo_c.specs.declared.tables.WidthRange.{WidthRange}

-- the range has characters, of at most two columns, and of 1 where one is printable ASCII
abbrev pub is_width_range : WidthRange → Bool
is_width_range r =
    (nat_le r.first r.last && nat_le r.last 0x10FFFF) &&
    (nat_le r.columns 2 && (((r.columns == 1) || nat_lt r.last 0x20) || nat_lt 0x7E r.first))

-- the ranges rise from this character on, and no two have the same
abbrev pub rises_from : ℕ → List WidthRange → Bool
rises_from from [] = true
rises_from from (r ∷ rs) = (nat_le from r.first && is_width_range r) && rises_from (r.last + 1) rs

abbrev pub is_table : List WidthRange → Bool
is_table = rises_from 0

-- the columns of the range that has the character, if one has it
abbrev pub columns_at : List WidthRange → ℕ → Option ℕ
columns_at [] c = None
columns_at (r ∷ rs) c =
    if nat_le r.first c && nat_le c r.last then Some r.columns else columns_at rs c

-- the character's columns, by Unicode where no range has it
abbrev pub char_columns : List WidthRange → ℕ → ℕ
char_columns ranges c = unwrap_or (columns_at ranges c) (unwrap_or (char_width false c) 1)

-- a range has one of the characters
abbrev pub has_any : List WidthRange → List ℕ → Bool
has_any ranges = list_any (λ c. is_some (columns_at ranges c))

-- the columns of a grapheme: of its characters together, cut at two, as a terminal that looks each
-- of them up goes on; by Unicode, where no range has one of them
abbrev pub columns_in : List WidthRange → List ℕ → ℕ
columns_in ranges text =
    if has_any ranges (chars text) then min (sum_by (char_columns ranges) (chars text)) 2
    else unicode_columns text

-- what a range gives a character that doesn't lie above it
abbrev pub given_by : Option WidthRange → ℕ → Option ℕ
given_by (Some r) c = if nat_le r.first c then Some r.columns else None
given_by None c = None

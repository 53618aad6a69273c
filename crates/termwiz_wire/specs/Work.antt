-- What the changes of an answer cost its screen, beside what their own bytes stand for.
use Rattle.std.specs.Prelude.{ℕ, ◌+◌, ◌*◌, min, nat_le, ◌==◌, Bool, true, false, List, [], ◌∷◌, Option, Some, None, if◌then◌else◌}
use Rattle.termwiz_cell.specs.ChangeValue.{ChangeValue}
use Rattle.termwiz_cell.specs.ChangeValue as changed
use Rattle.termwiz_cell.specs.declared.change.Position.{Position}
use Rattle.termwiz_cell.specs.declared.change.Position.TheVariants.{Absolute}
use Rattle.termwiz_wire.specs.declared.decode.heads.Head.{Head}

-- how many line feeds a text has
abbrev pub line_feeds : List ℕ → ℕ
line_feeds [] = 0
line_feeds (b ∷ bs) = (if b == 10 then 1 else 0) + line_feeds bs

-- whether a move leads to the first column
abbrev pub is_first : Position → Bool
is_first (Absolute n) = n == 0
is_first _ = false

-- the rows of a region that a scroll moves, and the cells of those that come in
abbrev pub scroll_work : ℕ → ℕ → ℕ → ℕ
scroll_work w size count = size + w * min count size

-- the work of a change on a screen of w columns and h rows: the cells that it may write and the
-- rows that it may move. A move to another column than the first may lead to the end of a row, from
-- where what is printed next begins a row. What is in the bytes themselves, such as the other cells
-- of a text, isn't counted.
abbrev pub work : ℕ → ℕ → ChangeValue → ℕ
work w h (changed.Text t) = w * line_feeds t
work w h (changed.ClearScreen c) = w * h
work w h (changed.ClearToEndOfLine c) = w
work w h (changed.ClearToEndOfScreen c) = w * h
work w h (changed.CursorPosition x y) = if is_first x then 0 else w
work w h (changed.ScrollRegionUp first size count) = scroll_work w size count
work w h (changed.ScrollRegionDown first size count) = scroll_work w size count
work w h _ = 0

-- the work of all changes of a list
abbrev pub work_of : ℕ → ℕ → List ChangeValue → ℕ
work_of w h [] = 0
work_of w h (c ∷ cs) = work w h c + work_of w h cs

-- how much an answer may take: four times its cells, and a little
abbrev pub most_work : ℕ → ℕ → ℕ
most_work w h = 64 + 4 * (w * h)

-- ---- of an answer with a head, or of changes by themselves, which may take any

abbrev pub head_rows : Option Head → Option ℕ
head_rows None = None
head_rows (Some head) = Some head.height

-- the work of a change,
abbrev pub cost : Option Head → ChangeValue → ℕ
cost None c = 0
cost (Some head) c = work head.width head.height c

-- the work of all changes
abbrev pub spent_on : Option Head → List ChangeValue → ℕ
spent_on None cs = 0
spent_on (Some head) cs = work_of head.width head.height cs

-- whether there may be this change too, where `spent` work was taken before it
abbrev pub bears : Option Head → ℕ → ChangeValue → Bool
bears None spent c = true
bears (Some head) spent c =
    nat_le (spent + work head.width head.height c) (most_work head.width head.height)

-- What is read of a link's params.
use Rattle.std.specs.Borrow.{Bor}
use Rattle.std.specs.Prelude.{◌≡◌, ℕ, ◌≤◌, Ok, Err, Option, Some, None, List, length, slice_get}
use Rattle.termwiz_cell.specs.CellValue.{CellValue}
use Rattle.termwiz_cell.specs.Link.{Link}
use Rattle.tikeburo_c.specs.Outcomes.{Outcome}
use Rattle.tikeburo_c.specs.Results.{Buffer, Refused}
use Rattle.tikeburo_c.specs.Rows.{at_front}
use Rattle.tikeburo_c.specs.declared.failure.Failure.TheVariants.{Range, Short}

-- a key and its value
abbrev pub Param : Type 0
Param = List ℕ × List ℕ

abbrev pub lent_param : Bor (List ℕ) × Bor (List ℕ) → Param
lent_param p = (p.0.now, p.1.now)

-- the param at this index of a link, in the order of their keys, if there is one
abbrev pub link_param_at : ℕ → Option Link → Option Param
link_param_at index (Some link) = slice_get link.params index
link_param_at index None = None

-- the caller's buffers for a key and for a value
abbrev pub ParamPlace : Type 0
ParamPlace = Buffer × Buffer

-- both have room
abbrev pub HasParamRoom : Param → ParamPlace → Type 0
HasParamRoom p place = (length p.0 ≤ length place.0.0) × (length p.1 ≤ length place.1.0)

-- key and value are at the buffers' fronts, with their lengths, or one of the two is too short and
-- there are only the lengths
abbrev pub GivesBoth : Param → ParamPlace → Outcome → ParamPlace → Type 0
GivesBoth p old (Ok _) new =
    HasParamRoom p old ×
    (new ≡ ((at_front p.0 old.0.0, length p.0), (at_front p.1 old.1.0, length p.1)))
GivesBoth p old (Err Short) new =
    (HasParamRoom p old → ⊥) × (new ≡ ((old.0.0, length p.0), (old.1.0, length p.1)))
GivesBoth p old (Err _) new = ⊥

-- of a param that there is
abbrev pub GivesParam : Option Param → ParamPlace → Outcome → ParamPlace → Type 0
GivesParam (Some p) = GivesBoth p
GivesParam None = Refused Range

-- of the link of a cell that there is
abbrev pub GivesCellParam : ℕ → Option CellValue → ParamPlace → Outcome → ParamPlace → Type 0
GivesCellParam index (Some cell) = GivesParam (link_param_at index cell.attrs.hyperlink)
GivesCellParam index None = Refused Range

-- What an answer says at its head, as the struct that C has of it.
use Rattle.std.specs.Prelude.{◌-◌, ◌^◌, Result, Ok, Err}
use Rattle.termwiz_wire.specs.declared.decode.heads.Head.{Head}
use Rattle.termwiz_wire.specs.declared.fault.Fault.{Fault}
use Rattle.termwiz_wire.specs.declared.fault.Limits.{Limits}
use Rattle.tikeburo_c.specs.Outcomes.{Outcome, unread_by}
use Rattle.tikeburo_c.specs.Results.{Refused, Returns}
use Rattle.tikeburo_c.specs.declared.heads.HeadFields.{HeadFields}

abbrev pub head_fields : Head → HeadFields
head_fields head = record {
  source = head.source;
  width = head.width;
  height = head.height;
  base = head.base;
  number = head.number;
  changes = head.count;
}

-- those of a `usize` alone
abbrev pub no_limits : Limits
no_limits = record { cells = 2 ^ 64 - 1; rows = 2 ^ 64 - 1; bytes = 2 ^ 64 - 1 }

-- the call returned this head, or refused the bytes by what is wrong with them
abbrev pub ReadsHead : Result Head Fault → HeadFields → Outcome → HeadFields → Type 0
ReadsHead (Ok head) = Returns (head_fields head)
ReadsHead (Err fault) = Refused (unread_by fault.kind)

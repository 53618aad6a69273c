-- The log of a surface: the number of its first change, and the changes from that one on.
use Rattle.std.specs.Prelude.{ℕ, ◌+◌, ◌-◌, ◌*◌, ◌/◌, ◌==◌, Bool, not, ◌&&◌, nat_le, List, [], ◌++◌, length, drop, if◌then◌else◌}
use Rattle.termwiz_cell.specs.ChangeValue.{ChangeValue}

pub record LogValue : Type 0 where
  pub first : ℕ
  pub changes : List ChangeValue

-- the number of the coming change
abbrev pub next_number : LogValue → ℕ
next_number l = l.first + length l.changes

-- the changes from number n on
abbrev pub due : LogValue → ℕ → List ChangeValue
due l n = drop (n - l.first) l.changes

-- the log has number n, or it is the coming one
abbrev pub reaches : LogValue → ℕ → Bool
reaches l n = nat_le l.first n && nat_le n (next_number l)

-- how many changes are worth sending where a screen of this size could be repainted
abbrev pub delta_limit : ℕ → ℕ → ℕ
delta_limit w h = 3 + (6 * (w * h)) / 5

-- the log has what is due from number n on, and that is worth sending; 0 is no number that a viewer
-- was given
abbrev pub is_known : ℕ → LogValue → ℕ → Bool
is_known most l n = not (n == 0) && (reaches l n && nat_le (length (due l n)) most)

-- the changes are logged
abbrev pub appended : LogValue → List ChangeValue → LogValue
appended l changes = record l { changes = l.changes ++ changes }

-- the changes before number n are dropped, where the log reaches it
abbrev pub flushed : LogValue → ℕ → LogValue
flushed l n =
    record {
      first = if reaches l n then n else l.first;
      changes = if reaches l n then due l n else l.changes;
    }

-- an empty log under the number that `count` more changes would give it
abbrev pub passed : LogValue → ℕ → LogValue
passed l count = record { first = next_number l + count; changes = [] }

-- an empty log under a new number, or under 0 where that was the number
abbrev pub restarted : LogValue → LogValue
restarted l = record { first = if next_number l == 0 then 0 else next_number l + 1; changes = [] }

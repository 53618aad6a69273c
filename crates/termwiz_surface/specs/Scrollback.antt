-- What contracts see of a scrollback beside its lines.
use Rattle.std.specs.Prelude.{ℕ, vec_len}
use Rattle.termwiz_surface.specs.declared.scrollback.Scrollback.{Scrollback}

-- how many removed lines have their memory kept for new rows
abbrev pub spare_lines : Scrollback → ℕ
spare_lines s = vec_len s.spare

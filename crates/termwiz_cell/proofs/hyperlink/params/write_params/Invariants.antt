use Rattle.std.proofs.Common.{◌≡◌, map}
use Rattle.std.specs.Fmt.{HasWritten, IsPlainFormatter}
use Rattle.std.specs.Map.Iter.{deref_pair}
use Rattle.termwiz_cell.specs.Link.{param_bytes}
use Rattle.termwiz_cell.specs.LinkText.{params_text}
use Rattle.termwiz_cell.proofs.ParamLists.{separator_after}
use Rattle.termwiz_cell.proofs.hyperlink.params.write_params.Given as goal
use denote.Shadow.{shadow}
use denote.Text.{Utf8}

-- the text of the params so far is written, and the separator is what comes before the next
abbrev pub invariant-loop-key : goal.invariant-loop-key
invariant-loop-key g l =
    (goal.iterator-loop-key g).can_next l.key-iterator
    × (goal.iterator-loop-key g).is_finite l.key-iterator
    × (l.separator ≡ separator_after l.yielded)
    × (IsPlainFormatter l.initial.f → HasWritten g.W.Write.write_str_gives l.initial.f (params_text (map param_bytes (map deref_pair l.yielded))) l.f)
    × shadow (Utf8 l.separator)

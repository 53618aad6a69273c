use Rattle.std.proofs.Common.{◌≡◌, ℕ, ◌+◌, ◌<◌, ◌≤◌, get_or, length}
use Rattle.termwiz_cell.specs.declared.change.Change.{Change}
use Rattle.termwiz_screen.proofs.log.swap_out_first.Given as goal

-- the first places have what stays, and those after them what they had
abbrev pub invariant-loop-i : goal.invariant-loop-i
invariant-loop-i l =
    let old = l.fn.changes.items in
    let now = l.changes.items in
    record {
      len : length now ≡ length old;
      moved : (k : ℕ) (d : Change) → k < l.i → get_or now k d ≡ get_or old (l.count + k) d;
      rest : (k : ℕ) (d : Change) → l.count + l.i ≤ k → get_or now k d ≡ get_or old k d;
    }

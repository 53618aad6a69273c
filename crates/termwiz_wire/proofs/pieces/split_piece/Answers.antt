use Rattle.std.proofs.Common.{◌≡◌, ℕ, List, length, subst, sym, ap₂, rules}
use Rattle.std.specs.Str.{chars}
use Rattle.termwiz_cell.specs.Attributes.{default_attributes}
use Rattle.termwiz_cell.specs.Measure.{measure}
use Rattle.termwiz_screen.specs.Print.{piece_of}
use Rattle.termwiz_text.specs.First.{IsFirst}
use Rattle.termwiz_wire.specs.Beginning.{IsBeginning}
use Rattle.termwiz_wire.specs.Pieces.{piece_columns}
use Rattle.termwiz_wire.specs.declared.pieces.Run.{Run}
use Rattle.termwiz_wire.proofs.Runs.{beginning_of_piece, runs-nothing}
use Rattle.termwiz_wire.proofs.pieces.split_piece.Goals as goal

pub returns-in_err-grapheme : goal.returns-in_err-grapheme
returns-in_err-grapheme g c =
    let f : List ℕ → ℕ = measure g.W.Widths.width_of c.args.widths.now in
    grind (rules, runs-nothing f c.args.text.now)

pub returns : goal.returns
returns g c =
    let f : List ℕ → ℕ = measure g.W.Widths.width_of c.args.widths.now in
    let text : List ℕ = c.args.text.now in
    let first : List ℕ = c.in_ok-grapheme.grapheme.now in
    let rest : List ℕ = c.in_ok-grapheme.rest.now in
    let is : IsFirst text first rest = search rules in
    let size : c.char_count.result ≡ length (chars first) = c.char_count.ensures in
    let columns : c.columns_of.result ≡ piece_columns (piece_of f default_attributes first) = c.columns_of.ensures in
    let P : Run → Type 0 = λ r. IsBeginning f text r rest in
    let made : ℕ → ℕ → Run = λ a b. record { count = 1; characters = a; columns = b } in
    subst P (sym (ap₂ made size columns)) (beginning_of_piece f text first rest is)

use Rattle.std.proofs.Common.{ℕ, List, ◌≡◌, ◌<◌, ◌+◌, ◌++◌, ◌∷◌, [], cond, eqb, map, length, get_or, arith, add-one, append_assoc, sym, ap, ◌∙◌}
use Rattle.std.proofs.lemmas.List.{get_or-map, length-map}
use Rattle.termwiz_cell.specs.ChangeValue as change
use Rattle.termwiz_cell.specs.ChangeValue.{ChangeValue}
use Rattle.termwiz_cell.specs.declared.change.LineAttribute.{LineAttribute}
use Rattle.termwiz_cell.specs.declared.change.LineAttribute.TheVariants.{SingleWidthLine}
use Rattle.termwiz_line.specs.Entries.{Penned}
use Rattle.termwiz_line.specs.LineFlags.{no_flags}
use Rattle.termwiz_line.specs.LineValue.{LineValue}
use Rattle.termwiz_screen.specs.FullScreen.{line_attribute}
use Rattle.termwiz_screen.specs.Repaint.{next_line, lines_upto}
use Rattle.termwiz_screen.specs.Sides.{row_flags}
use Rattle.termwiz_screen.proofs.repaint.full.push_lines.Goals as goal

attribute-read : (ls : List LineValue) (i : ℕ) (l : LineValue) → i < length ls → l ≡ get_or ls i l → get_or (map line_attribute (row_flags ls)) i SingleWidthLine ≡ line_attribute l.flags
attribute-read ls i l h e =
    get_or-map line_attribute (row_flags ls) i no_flags SingleWidthLine (omega (arith, length-map ls (λ (v : LineValue). v.flags)))
    ∙ ap line_attribute (get_or-map (λ (v : LineValue). v.flags) ls i l no_flags h ∙ ap (λ (v : LineValue). v.flags) (sym e))

-- one line more
line-pushed : (lines : List LineAttribute) (es : List ChangeValue) (i : ℕ) (a : LineAttribute) → get_or lines i SingleWidthLine ≡ a
    → ((es ++ lines_upto lines i) ++ cond (eqb i 0) [] (next_line ∷ [])) ++ change.LineAttribute a ∷ [] ≡ es ++ lines_upto lines (i + 1)
line-pushed lines es i a e =
    let move : List ChangeValue = cond (eqb i 0) [] (next_line ∷ []) in
    append_assoc (es ++ lines_upto lines i) move (change.LineAttribute a ∷ []) ∙ append_assoc es (lines_upto lines i) (move ++ change.LineAttribute a ∷ [])
    ∙ ap (λ b. es ++ (lines_upto lines i ++ (move ++ change.LineAttribute b ∷ []))) (sym e) ∙ ap (λ j. es ++ lines_upto lines j) (sym (add-one i))

pub loop-i-preserved : goal.loop-i-preserved
loop-i-preserved c =
    let ls = c.args.rows.now.items in
    let i = c.loop-i.i in
    let lines = map line_attribute (row_flags ls) in
    let old = c.args.writer.now.printed in
    let inside : i < length ls = omega (arith) in
    let here = attribute-read ls i c.index.result.now inside c.index.ensures ∙ sym c.attribute_of.ensures in
    record {
      printed = c.in_ok-push.ensures.printed
          ∙ ap (λ (d : Penned). record d { entries = d.entries ++ change.LineAttribute c.attribute_of.result ∷ [] }) (c.in_ok-push_next_line.ensures.printed ∙ ap (λ (d : Penned). record d { entries = d.entries ++ cond (eqb i 0) [] (next_line ∷ []) }) c.loop-i.invariant.printed)
          ∙ ap (λ es. record old { entries = es }) (line-pushed lines old.entries i c.attribute_of.result here);
      spaces = c.in_ok-push.ensures.spaces ∙ c.push_next_line.ensures.spaces ∙ c.loop-i.invariant.spaces;
    }

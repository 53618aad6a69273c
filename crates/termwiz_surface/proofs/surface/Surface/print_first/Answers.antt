use Rattle.std.proofs.Common.{◌≡◌, ◌≢◌, ◌∙◌, ◌*◌, ◌<◌, [], ◌∷◌, List, ℕ, true, ap, length, length-append, map, sym, subst, arith, rules}
use Rattle.std.specs.Prelude.{encode_utf8}
use Rattle.std.proofs.lemmas.Bool.{eqb-false}
use Rattle.std.specs.Str.{chars, IsUtf8}
use Rattle.termwiz_text.proofs.LetterRuns.{length-letters}
use Rattle.termwiz_cell.proofs.Graphemes.{no_grapheme}
use Rattle.unicode_segmentation.specs.Grapheme.{graphemes}
use Rattle.termwiz_cell.specs.Attributes.{needs_box}
use Rattle.termwiz_cell.specs.CellValue.{plain_cell}
use Rattle.termwiz_cell.specs.Measure.{measure}
use Rattle.termwiz_storage.specs.Letters.{letter_cell, set_letters}
use Rattle.termwiz_storage.specs.Stored.{set_run}
use Rattle.termwiz_screen.specs.Runs.{AreNarrow, AreWide}
use Rattle.termwiz_screen.specs.Screen.{Screen}
use Rattle.termwiz_screen.proofs.Runs.{pen-wrapped}
use Rattle.termwiz_surface.specs.Printing.{PrintsGraphemes}
use Rattle.termwiz_surface.specs.Surface.{SurfaceValue, kept_of, screen_of}
use Rattle.termwiz_surface.proofs.Printing.{AllPrint-plain, AllPrint-letters, letter_run, plain_run, prints-after_wrap, prints-one}
use Rattle.termwiz_surface.proofs.ScrolledOff.{behind-run}
use Rattle.termwiz_surface.proofs.surface.Surface.print_first.Goals as goal

some_letters : (run : List ℕ) → length run ≢ 0 → length run ≡ 3 * length (chars run) → 0 < length (chars run)
some_letters run some e = omega arith

pub put_letters-requires-clause-some : goal.put_letters-requires-clause-some
put_letters-requires-clause-some g c =
    let run : List ℕ = c.split_wide_run.result.0.now in
    let is_text : IsUtf8 run = search rules in
    some_letters run (eqb-false (length run) 0 (sym c.is_empty-then-begins_letters.ensures ∙ c.if-not-is_empty-2.true)) (length-letters run is_text c.split_wide_run.ensures.letters)

pub put_letters-requires-clause-unboxed : goal.put_letters-requires-clause-unboxed
put_letters-requires-clause-unboxed g c =
    let run : List ℕ = c.split_wide_run.result.0.now in
    let is_text : IsUtf8 run = search rules in
    let some : 0 < length (chars run) = some_letters run (eqb-false (length run) 0 (sym c.is_empty-then-begins_letters.ensures ∙ c.if-not-is_empty-2.true)) (length-letters run is_text c.split_wide_run.ensures.letters) in
    ap (λ (s : Screen). needs_box s.pen) c.in_ok-wrap-2.ensures.ok.screen_is ∙ ap needs_box (pen-wrapped (screen_of c.args.self.now)) ∙ c.run_limit-then-begins_letters.ensures.unboxed (omega (arith, c.split_wide_run.ensures.within))

pub returns-in-Some-clause-ok : goal.returns-in-Some-clause-ok
returns-in-Some-clause-ok g c =
    let first = rw c.in-Some.rest-is at c.in-Some.ensures in
    record {
      printed = (13 ∷ (10 ∷ [])) ∷ [];
      graphemes_are = first.graphemes_are;
      prints = prints-one (measure g.W.Widths.width_of c.args.self.now.widths) c.args.self.now c.next_line.new.self (13 ∷ (10 ∷ [])) c.in_ok-next_line.ensures.ok;
      shrinks = first.shrinks;
      is_text = search rules;
    }

pub returns-clause-ok : goal.returns-clause-ok
returns-clause-ok g c =
    let first = rw (c.in-Some-split_first_grapheme.grapheme-is, c.in-Some-split_first_grapheme.rest-is) at c.in-Some-split_first_grapheme.ensures in
    record {
      printed = c.in-Some-split_first_grapheme.grapheme.now ∷ [];
      graphemes_are = first.graphemes_are;
      prints = prints-one (measure g.W.Widths.width_of c.args.self.now.widths) c.args.self.now c.print_one.new.self c.in-Some-split_first_grapheme.grapheme.now c.in_ok-print_one.ensures.ok;
      shrinks = first.shrinks;
      is_text = search rules;
    }

pub unreachable-requires : goal.unreachable-requires
unreachable-requires g c =
    let nothing : c.args.text.now ≡ [] = no_grapheme c.args.text.now c.utf8.text c.in_default-split_first_grapheme.ensures in
    absurd (omega (arith, ap length nothing))

pub returns-then-not-is_empty-clause-ok : goal.returns-then-not-is_empty-clause-ok
returns-then-not-is_empty-clause-ok g c =
    let old : SurfaceValue _ = c.args.self.now in
    let f : List ℕ → ℕ = measure g.W.Widths.width_of old.widths in
    let run : List ℕ = c.split_narrow_run.result.0.now in
    let cut = c.split_narrow_run.ensures in
    let not_empty : length run ≢ 0 = eqb-false (length run) 0 (sym c.is_empty.ensures ∙ c.if-not-is_empty.true) in
    let narrow : AreNarrow f run = subst (λ (s : SurfaceValue _). AreNarrow (measure g.W.Widths.width_of s.widths) run) c.self.view_is cut.narrow in
    let d = c.in_ok-wrap.ensures.ok in
    let printed : PrintsGraphemes f c.wrap.new.self (map (λ b. b ∷ []) run) c.put_run.new.self =
    subst (λ (w : _). PrintsGraphemes (measure g.W.Widths.width_of w) c.wrap.new.self (map (λ b. b ∷ []) run) c.put_run.new.self) d.widths c.in_ok-put_run.ensures.ok in
    record {
      printed = map (λ b. b ∷ []) run;
      graphemes_are = cut.graphemes_are;
      prints = prints-after_wrap f (λ b. b ∷ []) (λ b. plain_cell b old.pen) old c.wrap.new.self c.put_run.new.self run (omega (arith, not_empty)) (AllPrint-plain f old.pen run cut.plain narrow) d c.in_ok-wrap.ensures.inside printed;
      shrinks = omega (arith, ap length cut.whole, length-append run c.split_narrow_run.result.1.now, not_empty);
      is_text = search rules;
    }

pub returns-then-not-is_empty-2-clause-ok : goal.returns-then-not-is_empty-2-clause-ok
returns-then-not-is_empty-2-clause-ok g c =
    let old : SurfaceValue _ = c.args.self.now in
    let f : List ℕ → ℕ = measure g.W.Widths.width_of old.widths in
    let run : List ℕ = c.split_wide_run.result.0.now in
    let letters : List ℕ = chars run in
    let cut = c.split_wide_run.ensures in
    let is_text : IsUtf8 run = search rules in
    let not_empty : length run ≢ 0 = eqb-false (length run) 0 (sym c.is_empty-then-begins_letters.ensures ∙ c.if-not-is_empty-2.true) in
    let some : 0 < length letters = some_letters run not_empty (length-letters run is_text cut.letters) in
    let wide : AreWide f letters = subst (λ (s : SurfaceValue _). AreWide (measure g.W.Widths.width_of s.widths) letters) c.self-then-begins_letters.view_is cut.wide in
    let d = c.in_ok-wrap-2.ensures.ok in
    let mid : SurfaceValue _ = c.wrap-then-not-is_empty-2.new.self in
    let printed : PrintsGraphemes f mid (map encode_utf8 letters) c.put_letters.new.self =
    subst (λ (w : _). PrintsGraphemes (measure g.W.Widths.width_of w) mid (map encode_utf8 letters) c.put_letters.new.self) d.widths c.in_ok-put_letters.ensures.ok in
    record {
      printed = map encode_utf8 letters;
      graphemes_are = cut.graphemes_are;
      prints = prints-after_wrap f encode_utf8 (λ l. letter_cell l old.pen) old mid c.put_letters.new.self letters some (AllPrint-letters f old.pen letters cut.letters wide) d c.in_ok-wrap-2.ensures.inside printed;
      shrinks = omega (arith, ap length cut.whole, length-append run c.split_wide_run.result.1.now, not_empty);
      is_text = search rules;
    }

pub returns-then-not-is_empty-clause-scrolls : goal.returns-then-not-is_empty-clause-scrolls
unfolding returns-then-not-is_empty-clause-ok
returns-then-not-is_empty-clause-scrolls g c =
    let f : List ℕ → ℕ = measure g.W.Widths.width_of c.args.self.now.widths in
    let old : SurfaceValue _ = c.args.self.now in
    let run : List ℕ = c.split_narrow_run.result.0.now in
    let cut = c.split_narrow_run.ensures in
    let not_empty : length run ≢ 0 = eqb-false (length run) 0 (sym c.is_empty.ensures ∙ c.if-not-is_empty.true) in
    let narrow : AreNarrow f run = subst (λ (s : SurfaceValue _). AreNarrow (measure g.W.Widths.width_of s.widths) run) c.self.view_is cut.narrow in
    let printed = (returns-then-not-is_empty-clause-ok g c).prints in
    behind-run f (λ b. b ∷ []) plain_cell set_run length plain_run run (screen_of old) (screen_of c.put_run.new.self) (kept_of old) (kept_of c.put_run.new.self) (graphemes true c.args.text.now) (graphemes true c.split_narrow_run.result.1.now)
    (omega (arith, not_empty)) (omega (arith, cut.within, c.run_limit.ensures.fits)) (AllPrint-plain f old.pen run cut.plain narrow) cut.graphemes_are printed.screen_is printed.kept_is

pub returns-then-not-is_empty-2-clause-scrolls : goal.returns-then-not-is_empty-2-clause-scrolls
unfolding chars returns-then-not-is_empty-2-clause-ok
returns-then-not-is_empty-2-clause-scrolls g c =
    let f : List ℕ → ℕ = measure g.W.Widths.width_of c.args.self.now.widths in
    let old : SurfaceValue _ = c.args.self.now in
    let run : List ℕ = c.split_wide_run.result.0.now in
    let letters : List ℕ = chars run in
    let cut = c.split_wide_run.ensures in
    let is_text : IsUtf8 run = search rules in
    let some : 0 < length letters = some_letters run (eqb-false (length run) 0 (sym c.is_empty-then-begins_letters.ensures ∙ c.if-not-is_empty-2.true)) (length-letters run is_text cut.letters) in
    let wide : AreWide f letters = subst (λ (s : SurfaceValue _). AreWide (measure g.W.Widths.width_of s.widths) letters) c.self-then-begins_letters.view_is cut.wide in
    let printed = (returns-then-not-is_empty-2-clause-ok g c).prints in
    behind-run f encode_utf8 letter_cell set_letters (λ ls. 2 * length ls) letter_run letters (screen_of old) (screen_of c.put_letters.new.self) (kept_of old) (kept_of c.put_letters.new.self) (graphemes true c.args.text.now) (graphemes true c.split_wide_run.result.1.now)
    some (omega (arith, cut.within, c.run_limit-then-begins_letters.ensures.fits)) (AllPrint-letters f old.pen letters cut.letters wide) cut.graphemes_are printed.screen_is printed.kept_is

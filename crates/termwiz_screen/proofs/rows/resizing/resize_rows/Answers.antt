use Rattle.std.proofs.Common.{◌≡◌, ◌-◌, ◌≤◌, ◌++◌, ◌∙◌, List, length, map, take, drop, replicate, ap, arith}
use Rattle.termwiz_line.specs.LineValue.{LineValue}
use Rattle.termwiz_screen.specs.Resized.{in_width}
use Rattle.termwiz_screen.specs.ScreenValue.{blank_line}
use Rattle.termwiz_screen.proofs.RowChanges.Resized.{fitted-cells, fitted-flags, fitted-longer, fitted-shorter, fitted-vectors}
use Rattle.termwiz_screen.proofs.rows.resizing.resize_rows.Goals as goal

pub returns-then-have-height : goal.returns-then-have-height
returns-then-have-height c =
    let w = c.args.width in
    let h = c.args.height in
    let old : List LineValue = c.args.rows.now.items in
    let new : List LineValue = c.add_rows.new.rows.items in
    let count = h - c.len-have.result in
    let short : length old ≤ h = omega (arith, c.len-have.ensures, c.args.rows.now.ok.0) in
    let missing : count ≡ h - length old = omega (arith, c.len-have.ensures, c.args.rows.now.ok.0) in
    let is : new ≡ map (in_width w) (take h old) ++ replicate count (blank_line w) = fitted-longer w h count old new short c.in_ok-add_rows.ensures.ok in
    record {
      ok = fitted-cells w h count old new missing is;
      flags = fitted-flags w h count old new missing is;
      err = tt;
      vectors = λ v. fitted-vectors w h count old new missing is;
    }

pub returns : goal.returns
returns c =
    let w = c.args.width in
    let h = c.args.height in
    let old : List LineValue = c.args.rows.now.items in
    let new : List LineValue = c.truncate.new.self.items in
    let long : h ≤ length old = omega (arith, c.len-have.ensures, c.args.rows.now.ok.0) in
    let none : 0 ≡ h - length old = omega arith in
    let fitted : c.fit_first.new.rows ≡ map (in_width w) (take h old) ++ drop h old =
    c.in_ok-fit_first.ensures.ok ∙ ap (λ (ls : List LineValue). map (in_width w) (take h ls) ++ drop h ls) c.make_contiguous.ensures.value in
    let cut : new ≡ take h c.fit_first.new.rows = c.truncate.ensures.items ∙ ap (take h) (c.make_contiguous.ensures.writes_back c.fit_first.new.rows (omega (arith, c.make_contiguous.ensures.len, c.fit_first.auto.rows))) in
    let is : new ≡ map (in_width w) (take h old) ++ replicate 0 (blank_line w) = fitted-shorter w h old c.fit_first.new.rows new long fitted cut in
    record {
      ok = fitted-cells w h 0 old new none is;
      flags = fitted-flags w h 0 old new none is;
      err = tt;
      vectors = λ v. fitted-vectors w h 0 old new none is;
    }

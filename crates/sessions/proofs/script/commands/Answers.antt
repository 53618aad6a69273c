use Rattle.std.proofs.Common.{ℕ, List, ◌++◌, sym, subst, append_assoc, lit<, rules}
use Rattle.sessions.specs.Lines.{LineSays, Say, FirstLine, LastLine}
use Rattle.sessions.proofs.script.commands.Goals as goal

pub loop-line-preserved : goal.loop-line-preserved
loop-line-preserved g c =
    let at = c.loop-line in
    let cut = c.in-Some.ensures.byte (lit< tt) (λ w o h. h) in
    let (added, line, items) = c.in_ok-add_command.ensures.said in
    let L : List ℕ → Type 0 = λ text. LineSays g.C.Command.says text added in
    let N : List g.row.C.Denot → Type 0 = λ commands. Say g.C.Command.says c.args.script.now commands in
    record {
      text = search rules;
      sizes = c.in_ok-add_command.ensures.sizes at.invariant.sizes;
      said = λ more later.
          let S : List ℕ → Type 0 = λ text. Say g.C.Command.says text more in
          let all = at.invariant.said (added ++ more) (FirstLine at.rest.now added more cut.2 (subst L cut.0 line) (subst S cut.1 later)) in
          subst (λ (commands : List g.row.C.Denot). N (commands ++ more)) (sym items) (subst N (sym (append_assoc at.commands.items added more)) all);
    }

pub returns-clause-said : goal.returns-clause-said
returns-clause-said g c =
    let whole = c.in_default.ensures.byte (lit< tt) (λ w o h. h) in
    let (added, line, items) = c.in_ok-add_command-2.ensures.said in
    let N : List g.row.C.Denot → Type 0 = λ commands. Say g.C.Command.says c.args.script.now commands in
    subst N (sym items) (c.loop-line.invariant.said added (LastLine c.loop-line.rest.now added whole line))

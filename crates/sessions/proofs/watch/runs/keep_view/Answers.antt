use Rattle.std.proofs.Common.{◌∙◌, ◌++◌, ◌∷◌, [], ap, refl, List}
use Rattle.sessions.specs.declared.watch.runs.View.{View}
use Rattle.sessions.proofs.watch.runs.keep_view.Goals as goal
use Rattle.sessions.proofs.watch.runs.keep_view.Goals.{then-not-each, else-not-each}

pub returns : goal.returns
returns c =
    let view : View = record { source = c.source.result; number = c.number.result; screen = c.in_ok-full_screen.field-0 } in
    record {
      view = view;
      shows = rw (c.in_ok-full_screen.ensures.shown, c.surface.ensures.value, c.source.ensures, c.number.ensures) refl;
      unmarked = record { numbers = c.in_ok-full_screen.ensures.numbers; flags = c.in_ok-full_screen.ensures.flags };
      kept = c.in_ok-push.ensures.items ∙ ap (λ (l : List View). l ++ view ∷ []) (elim c.if-not-each.branch [
        | then-not-each w ↦ rw (w.views-is, w.clear.ensures.items, w.if-not-each.true) refl
        | else-not-each w ↦ rw (w.views-is, w.if-not-each.false) refl
      ]);
    }

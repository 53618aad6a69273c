-- Whatever a surface does, its numbers still name what they named; and answers lead to what their
-- numbers name.
use Rattle.std.proofs.Common.{◌≡◌, ℕ, ◌+◌, ◌-◌, ◌≤◌, ◌<◌, inl, inr, true, false, Bool, List, [], ◌∷◌, ◌++◌, length, take, drop, refl, sym, ap, subst, ◌∙◌, arith, length-append}
use Rattle.std.specs.Prelude.{Result, Ok, Err, OnOk, OnErr, ◌==◌, not, nat_le, if◌then◌else◌, fold}
use Rattle.std.specs.Result.{is_err}
use Rattle.std.proofs.lemmas.Bool.{cases_Bool, cases_lt, eqb-true, true≢false, le-leb, lt-leb}
use Rattle.std.proofs.lemmas.Bool.Decides.{nat_tests}
use Rattle.std.proofs.lemmas.Grind.{fold-append}
use Rattle.std.proofs.lemmas.List.{take-append-drop}
use Rattle.std.proofs.Math.Seq.{drop-length, drop-append-add}
use Rattle.unicode_segmentation.specs.Grapheme.{graphemes}
use Rattle.termwiz_cell.specs.ChangeValue as change
use Rattle.termwiz_cell.specs.ChangeValue.{ChangeValue}
use Rattle.termwiz_surface.specs.Adding.{Makes, with_log}
use Rattle.termwiz_surface.specs.Answer.{AnswerValue, IsGiven, Carries, is_stale}
use Rattle.termwiz_surface.specs.Following.{LeadsTo}
use Rattle.termwiz_surface.specs.Surface.{full_of, SameFrame, SurfaceValue, screen_of}
use Rattle.termwiz_surface.specs.History.{Names, NamesGoOn, IsPast, GoesOn, KeepsNames}
use Rattle.termwiz_screen.specs.Log.{LogValue, next_number, due, is_known, delta_limit, appended, flushed, restarted}
use Rattle.termwiz_screen.specs.Picture.{Pictures, screens, full_screens, played}
use Rattle.termwiz_screen.specs.Print.{print_one, print_piece, piece_of, wraps, wrapped}
use Rattle.termwiz_screen.specs.Screen.{Screen}
use Rattle.termwiz_screen.specs.Step.{step}
use Rattle.termwiz_screen.specs.Stream.{Brings}
use Rattle.termwiz_screen.specs.declared.print.Piece.{Piece}
use Rattle.termwiz_screen.specs.declared.print.Piece.TheVariants.{CarriageReturn, LineFeed, CarriageReturnLineFeed, Cell}
use Rattle.termwiz_surface.proofs.Following.{known_tells, full-made, Leads-none, Leads-same, Leads-appended, Leads-restarted, Leads-flushed}
use Rattle.termwiz_screen.proofs.Logs.{flushed_number, restarted_number}

-- t has the size of s
pub record SameSize (s t : Screen) : Type 0 where
  pub width : t.width ≡ s.width
  pub height : t.height ≡ s.height

SameSize-then : (s t u : Screen) → SameSize s t → SameSize t u → SameSize s u
SameSize-then s t u a b = record { width = b.width ∙ a.width; height = b.height ∙ a.height }

same_wrapped : (s : Screen) → SameSize s (wrapped s)
same_wrapped s = elim (cases_Bool (wraps s)) [ inl e ↦ rw e (record { width = refl; height = refl }) | inr e ↦ rw e (record { width = refl; height = refl }) ]

same_piece : (s : Screen) (p : Piece) → SameSize s (print_piece s p)
same_piece s CarriageReturn = record { width = refl; height = refl }
same_piece s LineFeed = record { width = refl; height = refl }
same_piece s CarriageReturnLineFeed = record { width = refl; height = refl }
same_piece s (Cell c) = let k = same_wrapped s in record { width = k.width; height = k.height }

module _ (f : List ℕ → ℕ) where
  same_printed : (s : Screen) (gs : List (List ℕ)) → SameSize s (fold (print_one f) s gs)
  same_printed s [] = record { width = refl; height = refl }
  same_printed s (g ∷ gs) = SameSize-then s (print_one f s g) _ (same_piece s (piece_of f s.pen g)) (same_printed (print_one f s g) gs)

  same_step : (s : Screen) (c : ChangeValue) → SameSize s (step f s c)
  same_step s (change.Attribute value) = record { width = refl; height = refl }
  same_step s (change.AllAttributes attrs) = record { width = refl; height = refl }
  same_step s (change.Text text) = same_printed s (graphemes true text)
  same_step s (change.ClearScreen color) = record { width = refl; height = refl }
  same_step s (change.ClearToEndOfLine color) = record { width = refl; height = refl }
  same_step s (change.ClearToEndOfScreen color) = record { width = refl; height = refl }
  same_step s (change.CursorPosition x y) = record { width = refl; height = refl }
  same_step s (change.CursorColor color) = record { width = refl; height = refl }
  same_step s (change.CursorShape shape) = record { width = refl; height = refl }
  same_step s (change.CursorVisibility visibility) = record { width = refl; height = refl }
  same_step s (change.ScrollRegionUp first size count) = record { width = refl; height = refl }
  same_step s (change.ScrollRegionDown first size count) = record { width = refl; height = refl }
  same_step s (change.Title title) = record { width = refl; height = refl }
  same_step s (change.LineAttribute attribute) = record { width = refl; height = refl }

-- the steps of these pictures keep their size
pub record KeepSize {P : Type 0} (pictures : Pictures P) (f : List ℕ → ℕ) : Type 0 where
  pub same : (p : P) (c : ChangeValue) → SameSize (pictures.screen p) (pictures.screen (pictures.step f p c))

pub screens_keep : (f : List ℕ → ℕ) → KeepSize screens f
screens_keep f = record { same = same_step f }

pub full_screens_keep : (f : List ℕ → ℕ) → KeepSize full_screens f
full_screens_keep f = record { same = λ p c. same_step f p.screen c }

pub names-stay : {P : Type 0} (past later : ℕ → P) (n : ℕ) (p : P) → later n ≡ past n → Names past n p → Names later n p
names-stay past later n p e names = record { named = λ ne. e ∙ names.named ne }

-- a number that is known is one that the log reaches
pub known_reaches : (most : ℕ) (log : LogValue) (n : ℕ) → is_known most log n ≡ true → n ≤ next_number log
known_reaches most log n h = grind (arith, nat_tests)

module _ {P : Type 0} (pictures : Pictures P) (f : List ℕ → ℕ) where
  same_played : KeepSize pictures f → (p : P) (cs : List ChangeValue) → SameSize (pictures.screen p) (pictures.screen (played pictures f p cs))
  same_played keep p [] = record { width = refl; height = refl }
  same_played keep p (c ∷ cs) = SameSize-then (pictures.screen p) (pictures.screen (pictures.step f p c)) _ (keep.same p c) (same_played keep (pictures.step f p c) cs)

  pub past-first : (past : ℕ → P) (p : P) → IsPast pictures f past p (record { first = 0; changes = [] })
  past-first past p = record { leads = λ n le. Leads-none pictures f (past n) p n (record { first = 0; changes = [] }) (omega arith) }

  pub past-names : (past : ℕ → P) (p : P) (log : LogValue) → IsPast pictures f past p log → Names past (next_number log) p
  past-names past p log is = record {
    named = λ ne.
        let all : next_number log - log.first ≡ length log.changes = omega arith in
        let end : due log (next_number log) ≡ [] = ap (λ k. drop k log.changes) all ∙ drop-length log.changes in
        ap (played pictures f (past (next_number log))) (sym end) ∙ ((is.leads (next_number log) (omega arith)).leads ne (omega arith)).2;
  }

  pub past-leads : (past : ℕ → P) (v p : P) (n : ℕ) (log : LogValue) → IsPast pictures f past p log → n ≤ next_number log → Names past n v → LeadsTo pictures f v n p log
  past-leads past v p n log is le names = record {
    not_ahead = le;
    leads = λ ne from.
        subst (λ (t : P). ((pictures.screen t).width ≡ (pictures.screen p).width) × ((pictures.screen t).height ≡ (pictures.screen p).height) × (played pictures f t (due log n) ≡ p)) (names.named ne)
        ((is.leads n le).leads ne from);
  }

  -- the numbers that changes took name the pictures between them
  named_later : (past : ℕ → P) (p : P) (log : LogValue) (cs : List ChangeValue) → ℕ → P
  named_later past p log cs n = if nat_le n (next_number log) then past n else played pictures f p (take (n - next_number log) cs)

  pub past-changes : KeepSize pictures f → (past : ℕ → P) (p q : P) (log : LogValue) (cs : List ChangeValue) → (pictures.screen q).width ≡ (pictures.screen p).width → (pictures.screen q).height ≡ (pictures.screen p).height
      → q ≡ played pictures f p cs → IsPast pictures f past p log → GoesOn pictures f past (next_number log) q (appended log cs)
  unfolding named_later
  past-changes keep past p q log cs w h e is =
      let count : next_number (appended log cs) ≡ next_number log + length cs = omega (arith, length-append log.changes cs) in
      record {
        later = named_later past p log cs;
        alike = λ k le. rw (le-leb k (next_number log) le) refl;
        grows = omega (arith, count);
        is_past = record {
          leads = λ n le. elim (cases_lt (next_number log) n) [
            | inr before ↦ rw (le-leb n (next_number log) before) (Leads-appended pictures f (past n) p q n log cs w h e (is.leads n before))
            | inl behind ↦ rw (lt-leb n (next_number log) behind) (between n behind le)
          ];
        };
      }
    where
      between : (n : ℕ) → next_number log < n → n ≤ next_number (appended log cs) → LeadsTo pictures f (played pictures f p (take (n - next_number log) cs)) n q (appended log cs)
      between n behind le =
          let k = n - next_number log in
          let sum : n - log.first ≡ length log.changes + k = omega arith in
          let rest : due (appended log cs) n ≡ drop k cs = ap (λ j. drop j (log.changes ++ cs)) sum ∙ drop-append-add log.changes cs k in
          let size = same_played keep p (take k cs) in
          record {
            not_ahead = le;
            leads = λ ne from. (
              size.width ∙ sym w,
              size.height ∙ sym h,
              ap (played pictures f (played pictures f p (take k cs))) rest ∙ sym (fold-append (pictures.step f) p (take k cs) (drop k cs)) ∙ ap (played pictures f p) (take-append-drop k cs) ∙ sym e,
            );
          }

  pub past-flushed : (past : ℕ → P) (p : P) (k : ℕ) (log : LogValue) → IsPast pictures f past p log → IsPast pictures f past p (flushed log k)
  past-flushed past p k log is = record { leads = λ n le. Leads-flushed pictures f (past n) p n k log (is.leads n (omega (arith, flushed_number log k, le))) }

  -- the number that a log is emptied under names the picture that is left
  named_anew : (past : ℕ → P) (q : P) (log : LogValue) → ℕ → P
  named_anew past q log n = if nat_le n (next_number log) then past n else q

  pub past-restarted : (past : ℕ → P) (p q : P) (log : LogValue) → IsPast pictures f past p log → GoesOn pictures f past (next_number log) q (restarted log)
  unfolding named_anew
  past-restarted past p q log is = record {
    later = named_anew past q log;
    alike = λ k le. rw (le-leb k (next_number log) le) refl;
    grows = elim (cases_Bool (next_number log == 0)) [ inl z ↦ rw z (omega (arith, eqb-true (next_number log) 0 z)) | inr z ↦ rw z (omega arith) ];
    is_past = record {
      leads = λ n le. elim (cases_lt (next_number log) n) [
        | inr before ↦ rw (le-leb n (next_number log) before) (Leads-restarted pictures f (past n) p q n log (is.leads n before))
        | inl behind ↦ rw (lt-leb n (next_number log) behind) (Leads-same pictures f q q n (restarted log) refl (omega (arith, behind, le, restarted_number log)))
      ];
    };
  }

  pub answers-stay : (past later : ℕ → P) (n : ℕ) (p : P) (a : AnswerValue) → ((k : ℕ) → k ≤ n → later k ≡ past k) → a.number ≤ n → Carries pictures f past a p → Carries pictures f later a p
  answers-stay past later n p a alike le c = record {
    named = names-stay past later a.number p (alike a.number le) c.named;
    repaint = c.repaint;
    delta = λ some. let d = c.delta some in (d.0, ap (λ (t : P). played pictures f t a.changes) (alike a.base (omega (arith, d.0, le))) ∙ d.1);
  }

  pub given-carries : (past : ℕ → P) (p : P) (log : LogValue) (n : ℕ) (a : AnswerValue) → IsPast pictures f past p log → IsGiven pictures f p log n a → Carries pictures f past a p
  given-carries past p log n a is g =
      let most = delta_limit (pictures.screen p).width (pictures.screen p).height in
      elim (is_known most log n) as (λ b. is_known most log n ≡ b → Carries pictures f past a p) [
        | true ↦ λ e.
            let d = g.delta e in
            let told = known_tells most log n e in
            let reach = known_reaches most log n e in
            record {
              named = rw g.number (past-names past p log is);
              repaint = λ none. absurd (told.0 (sym d.0 ∙ none));
              delta = λ some. (
                omega (arith, d.0, g.number, reach),
                rw (d.0, d.1) ((is.leads n reach).leads told.0 told.1).2,
              );
            }
        | false ↦ λ e.
            let r = g.repaint e in
            record {
              named = rw g.number (past-names past p log is);
              repaint = λ none t size. r.1 t (rw (← g.width, ← g.height) size);
              delta = λ some. absurd (some r.0);
            }
      ] refl

  pub carried-leads : (past : ℕ → P) (a : AnswerValue) (p v : P) (n : ℕ) → pictures.IsSized a.width a.height v → is_stale n a ≡ false → Names past n v → Carries pictures f past a p → played pictures f v a.changes ≡ p
  carried-leads past a p v n size fresh names c = elim (cases_Bool (a.base == 0)) [
    | inl none ↦ c.repaint (eqb-true a.base 0 none) v size
    | inr some ↦ elim (cases_Bool (n == a.base)) [
      | inr other ↦ absurd (true≢false (sym (rw (some, other) refl) ∙ fresh))
      | inl same ↦
          let is : n ≡ a.base = eqb-true n a.base same in
          let named : a.base ≡ 0 → ⊥ = λ z. true≢false (sym (ap (λ k. k == 0) z) ∙ some) in
          ap (λ (t : P). played pictures f t a.changes) (sym (names.named (λ z. named (sym is ∙ z))) ∙ ap past is) ∙ (c.delta named).1
    ]
  ]

  -- a stream that is lent where the number is known, and made where it isn't, is an answer
  pub is-given : (p : P) (log : LogValue) (n : ℕ) (made : Bool) (a : AnswerValue) → a.width ≡ (pictures.screen p).width → a.height ≡ (pictures.screen p).height → a.number ≡ next_number log → a.base ≡ (if made then 0 else n)
      → is_known (delta_limit (pictures.screen p).width (pictures.screen p).height) log n ≡ not made → Brings pictures f p log n a.changes → IsGiven pictures f p log n a
  is-given p log n made a w h number base known stream = record {
    width = w;
    height = h;
    number = number;
    delta = λ e. elim (cases_Bool made) [
      | inl is ↦ absurd (true≢false (sym e ∙ known ∙ rw is refl))
      | inr lent ↦ (base ∙ rw lent refl, stream.known e)
    ];
    repaint = λ e. elim (cases_Bool made) [
      | inr lent ↦ absurd (true≢false (sym (known ∙ rw lent refl) ∙ e))
      | inl is ↦ (base ∙ rw is refl, stream.repaint e)
    ];
  }

-- a surface that goes on twice goes on
go_on : {P : Type 0} (pictures : Pictures P) {W : Type 0} (f : List ℕ → ℕ) (r s t : SurfaceValue W) → NamesGoOn pictures f r s → NamesGoOn pictures f s t → NamesGoOn pictures f r t
go_on pictures f r s t first second past is =
    let one = first past is in
    let two = second one.later one.is_past in
    record {
      later = two.later;
      alike = λ k le. two.alike k (omega (arith, le, one.grows)) ∙ one.alike k le;
      grows = omega (arith, one.grows, two.grows);
      is_past = two.is_past;
    }

module _ {W : Type 0} (f : List ℕ → ℕ) where
  -- nothing has changed
  pub keeps_same : (s : SurfaceValue W) → KeepsNames f s s
  keeps_same s = record {
    screen = λ past is. record { later = past; alike = λ k le. refl; grows = omega arith; is_past = is };
    full = λ past is. record { later = past; alike = λ k le. refl; grows = omega arith; is_past = is };
  }

  -- one call after another
  pub keeps_then : (r s t : SurfaceValue W) → KeepsNames f r s → KeepsNames f s t → KeepsNames f r t
  keeps_then r s t a b = record {
    screen = go_on screens f r s t a.screen b.screen;
    full = go_on full_screens f r s t a.full b.full;
  }

  -- changes that are made and logged
  pub keeps_makes : (s t : SurfaceValue W) (cs : List ChangeValue) → Makes f s cs t → KeepsNames f s t
  keeps_makes s t cs m = record {
    screen = λ past is. rw m.log (past-changes screens f (screens_keep f) past (screen_of s) (screen_of t) s.log cs m.width m.height m.screen_is is);
    full = λ past is. rw m.log (past-changes full_screens f (full_screens_keep f) past (full_of s) (full_of t) s.log cs m.width m.height (full-made f s t cs m) is);
  }

  pub keeps_flushed : (s : SurfaceValue W) (k : ℕ) → KeepsNames f s (with_log s (flushed s.log k))
  keeps_flushed s k =
      let count : next_number s.log ≤ next_number (flushed s.log k) = omega (arith, flushed_number s.log k) in
      record {
        screen = λ past is. record { later = past; alike = λ j le. refl; grows = count; is_past = past-flushed screens f past (screen_of s) k s.log is };
        full = λ past is. record { later = past; alike = λ j le. refl; grows = count; is_past = past-flushed full_screens f past (full_of s) k s.log is };
      }

  -- any surface with an emptied log
  pub keeps_restarted : (s t : SurfaceValue W) → t.log ≡ restarted s.log → KeepsNames f s t
  keeps_restarted s t l = record {
    screen = λ past is. rw l (past-restarted screens f past (screen_of s) (screen_of t) s.log is);
    full = λ past is. rw l (past-restarted full_screens f past (full_of s) (full_of t) s.log is);
  }

  -- a call that makes changes succeeded
  pub keeps_made : {E : Type 0} (s t : SurfaceValue W) (cs : List ChangeValue) (result : Result (Unit {0}) E) → is_err result ≡ false → OnOk result (Makes f s cs t) → KeepsNames f s t
  keeps_made s t cs (Ok u) e m = keeps_makes s t cs m
  keeps_made s t cs (Err x) e m = absurd (true≢false e)

  -- or it failed, and then the log was emptied
  pub keeps_unmade : {E : Type 0} (s t u : SurfaceValue W) (result : Result (Unit {0}) E) → is_err result ≡ true → OnErr result (SameFrame s t) → u.log ≡ restarted t.log → KeepsNames f s u
  keeps_unmade s t u (Ok x) e m l = absurd (true≢false (sym e))
  keeps_unmade s t u (Err x) e m l = keeps_restarted s u (l ∙ ap restarted m.log)

use Rattle.std.proofs.Common.{◌≡◌, ◌≤◌, true, inl, inr, refl, sym, ap, subst, ◌∙◌, arith}
use Rattle.std.specs.Prelude.{not, if◌then◌else◌}
use Rattle.std.specs.Cow.{IsBorrowedSlice, IsOwnedSlice}
use Rattle.std.specs.declared.borrow.CowSlice.{CowSlice}
use Rattle.std.specs.declared.borrow.CowSlice.TheVariants.{Borrowed, Owned}
use Rattle.std.proofs.lemmas.Bool.{cases_Bool}
use Rattle.termwiz_screen.specs.Log.{is_known, delta_limit}
use Rattle.termwiz_surface.specs.Surface.{full_of, SurfaceValue, screen_of}
use Rattle.termwiz_screen.specs.Picture.{screens, full_screens}
use Rattle.termwiz_screen.specs.Step.{regions_fit}
use Rattle.termwiz_screen.specs.Stream.{stream_of}
use Rattle.termwiz_surface.proofs.Remembering.{given-carries, is-given, known_reaches}
use Rattle.termwiz_surface.proofs.surface.Surface.answer.Given as given
use Rattle.termwiz_surface.proofs.surface.Surface.answer.Goals as goal
use Rattle.termwiz_surface.proofs.surface.Surface.answer.Goals.{then-is_repaint, else-is_repaint}

-- no list is lent and made
lent_or_made : {X Z : Type 0} (changes : CowSlice X Z) → IsBorrowedSlice changes → IsOwnedSlice changes → ⊥
lent_or_made (Borrowed r) lent made = made
lent_or_made (Owned v) lent made = lent

module _ (g : given.Over) (c : goal.Joined-is_repaint g) where
  known : is_known (delta_limit c.args.self.now.width c.args.self.now.height) c.args.self.now.log c.args.seq ≡ not c.is_owned-is_repaint.result
  known = elim (cases_Bool (is_known (delta_limit c.args.self.now.width c.args.self.now.height) c.args.self.now.log c.args.seq)) [
    | inl e ↦ elim (cases_Bool c.is_owned-is_repaint.result) [
      | inl made ↦ absurd (lent_or_made c.in_ok-number.changes (c.in_ok-number.ensures.due e).borrowed (c.is_owned-is_repaint.ensures.made made))
      | inr lent ↦ rw lent e
    ]
    | inr e ↦ elim (cases_Bool c.is_owned-is_repaint.result) [
      | inl made ↦ rw made e
      | inr lent ↦ absurd (lent_or_made c.in_ok-number.changes (c.is_owned-is_repaint.ensures.lent lent) (c.in_ok-number.ensures.owned e))
    ]
  ]

  width : c.self.inside.width ≡ c.args.self.now.width
  width = ap (λ (s : SurfaceValue _). s.width) c.self.view_is

  height : c.self.inside.height ≡ c.args.self.now.height
  height = ap (λ (s : SurfaceValue _). s.height) c.self.view_is

  base : c.if-is_repaint.result ≡ (if c.is_owned-is_repaint.result then 0 else c.args.seq)
  base = elim c.if-is_repaint.branch [
    | then-is_repaint w ↦ w.result-is ∙ rw w.if-is_repaint.true refl
    | else-is_repaint w ↦ w.result-is ∙ rw w.if-is_repaint.false refl
  ]

  ordered : c.if-is_repaint.result ≤ c.in_ok-number.number
  ordered = elim (cases_Bool c.is_owned-is_repaint.result) [
    | inl made ↦
        let zero : c.if-is_repaint.result ≡ 0 = base ∙ rw made refl in
        omega (arith, zero)
    | inr lent ↦
        let asked : c.if-is_repaint.result ≡ c.args.seq = base ∙ rw lent refl in
        let is : is_known (delta_limit c.args.self.now.width c.args.self.now.height) c.args.self.now.log c.args.seq ≡ true = known ∙ rw lent refl in
        omega (arith, asked, known_reaches (delta_limit c.args.self.now.width c.args.self.now.height) c.args.self.now.log c.args.seq is, c.in_ok-number.ensures.number)
  ]

pub invariant_of-result : goal.invariant_of-result
invariant_of-result g c =
    let sound = c.self.invariant.0 in
    record {
      some_column = sound.some_column;
      some_row = sound.some_row;
      fits = sound.fits;
      fits_height = sound.fits_height;
      ordered = ordered g c;
      regions = subst (λ (v : SurfaceValue _). regions_fit v.height (stream_of c.in_ok-number.changes) ≡ true) (sym c.self.view_is) c.in_ok-number.ensures.regions;
    }

pub returns-clause-given : goal.returns-clause-given
returns-clause-given g c =
    let v = c.args.self.now in
    is-given screens _ (screen_of v) v.log c.args.seq c.is_owned-is_repaint.result _ (width g c) (height g c) c.in_ok-number.ensures.number (base g c) (known g c) c.in_ok-number.ensures.stream

pub returns-clause-given_fully : goal.returns-clause-given_fully
returns-clause-given_fully g c full =
    let v = c.args.self.now in
    is-given full_screens _ (full_of v) v.log c.args.seq c.is_owned-is_repaint.result _ (width g c) (height g c) c.in_ok-number.ensures.number (base g c) (known g c) (c.in_ok-number.ensures.full full)

pub returns-clause-carries : goal.returns-clause-carries
returns-clause-carries g c past is = given-carries screens _ past _ _ _ _ is (returns-clause-given g c)

pub returns-clause-carries_fully : goal.returns-clause-carries_fully
returns-clause-carries_fully g c full past is = given-carries full_screens _ past _ _ _ _ is (returns-clause-given_fully g c full)

pub returns-clause-entries : goal.returns-clause-entries
returns-clause-entries g c known = c.in_ok-number.ensures.entries known

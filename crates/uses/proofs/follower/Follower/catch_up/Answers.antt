use Rattle.std.proofs.Common.{◌≡◌, ◌+◌, ◌-◌, List, Ok, Err, Result, inl, map, true, refl, sym, ap, ◌∙◌, subst}
use Rattle.std.specs.Prelude.{vec_len}
use Rattle.std.proofs.lemmas.Result.{err_from_is_err_and}
use Rattle.termwiz_surface.specs.{ChangeValue, change_value, knows, next_number, regions_fit, HasFullSize, HasSize, IsFullStream, IsStream, SurfaceValue, ViewerValue, full_of, full_replay, full_screen, kept_of, measure, replay, screen_of, stream_of}
use Rattle.termwiz_surface.specs.declared.surface.SurfaceError.{SurfaceError}
use Rattle.termwiz_surface.specs.declared.surface.SurfaceError.TheVariants.{ScrollRegion}
use Rattle.uses.specs.Following.{answer_for}
use Rattle.uses.specs.Making.{MakesOrRefuses, MakesOrFails}
use Rattle.uses.proofs.Following.{answer_is, never_scrolls}
use Rattle.uses.proofs.Making.{adds_made, adds_refused}
use Rattle.uses.proofs.Returned.{returned}
use Rattle.termwiz_surface.proofs.Following.{Follows-none}
use Rattle.uses.proofs.follower.Follower.catch_up.Goals as goal

pub returns-in_err-copied-clause-follows : goal.returns-in_err-copied-clause-follows
returns-in_err-copied-clause-follows g c =
    let f = measure g.W.Widths.width_of in
    Follows-none f _ c.args.surface.now (ap (λ (u : ViewerValue _). f u.surface.widths) c.self.view_is ∙ c.requires.follows.one_measure) refl

pub returns-in_err-add_changes-clause-follows : goal.returns-in_err-add_changes-clause-follows
returns-in_err-add_changes-clause-follows g c =
    let f = measure g.W.Widths.width_of in
    -- a viewer that followed what was shown follows it after the refused list, so its width value
    -- is as it was
    let other : ViewerValue _ = record { surface = c.self.inside.shown; last = 0 } in
    let stay = c.in_err-add_changes.ensures.preserves.viewers other (Follows-none f other c.self.inside.shown refl refl) in
    Follows-none f _ c.args.surface.now (sym stay.one_measure ∙ ap (λ (u : ViewerValue _). f u.surface.widths) c.self.view_is ∙ c.requires.follows.one_measure) refl

pub returns-clause-shown : goal.returns-clause-shown
returns-clause-shown g c =
    let f = measure g.W.Widths.width_of in
    let s = c.args.surface.now in
    let v = c.args.self.now in
    let shown : c.self.inside.shown ≡ v.surface = ap (λ (u : ViewerValue _). u.surface) c.self.view_is in
    let size : HasSize s.width s.height (screen_of v.surface) =
    subst (λ w. HasSize w s.height (screen_of v.surface)) c.requires.same_width
    (subst (λ h. HasSize v.surface.width h (screen_of v.surface)) c.requires.same_height (subst (λ (u : SurfaceValue _). HasSize u.width u.height (screen_of u)) shown c.dimensions-size.ensures.sized)) in
    let stream : IsStream (f s.widths) (screen_of s) s.log v.last (stream_of c.in_ok-number.changes) =
    subst (λ n. IsStream (f s.widths) (screen_of s) s.log n (stream_of c.in_ok-number.changes)) (ap (λ (u : ViewerValue _). u.last) c.self.view_is) c.in_ok-number.ensures.stream in
    c.in_ok-add_changes.ensures.adds.3.screen_is
    ∙ (λ i. replay (f (shown i).widths) (screen_of (shown i)) (c.in_ok-copied.ensures i))
    ∙ ap (λ m. replay m (screen_of v.surface) (stream_of c.in_ok-number.changes)) c.requires.follows.one_measure
    ∙ c.following_laws.ensures.streams (f s.widths) (screen_of v.surface) (screen_of s) v.last s.log (stream_of c.in_ok-number.changes) size c.requires.follows.leads stream

-- of a full surface it shows the full screen
pub returns-clause-follows : goal.returns-clause-follows
returns-clause-follows g c =
    let f = measure g.W.Widths.width_of in
    let s = c.args.surface.now in
    let v = c.args.self.now in
    let shown : c.self.inside.shown ≡ v.surface = ap (λ (u : ViewerValue _). u.surface) c.self.view_is in
    let size : HasFullSize s.width s.height (full_of v.surface) =
    subst (λ w. HasFullSize w s.height (full_of v.surface)) c.requires.same_width
    (subst (λ h. HasFullSize v.surface.width h (full_of v.surface)) c.requires.same_height (subst (λ (u : SurfaceValue _). HasFullSize u.width u.height (full_of u)) shown c.dimensions-size.ensures.fully_sized)) in
    let made = c.in_ok-add_changes.ensures.adds.3 in
    let full_shown : s.full ≡ true → full_of c.add_changes.new.self ≡ full_of s = λ full.
    (λ i. full_screen (made.screen_is i) (made.kept_is i))
    ∙ (λ i. c.full_repaint_laws.ensures.changes (f (shown i).widths) (c.in_ok-copied.ensures i) (screen_of (shown i)) (kept_of (shown i)) i)
    ∙ ap (λ m. full_replay m (full_of v.surface) (stream_of c.in_ok-number.changes)) c.requires.follows.one_measure
    ∙ c.full_following_laws.ensures.streams (f s.widths) (full_of v.surface) (full_of s) v.last s.log (stream_of c.in_ok-number.changes) size (c.requires.follows.full full)
    (subst (λ n. IsFullStream (f s.widths) (full_of s) s.log n (stream_of c.in_ok-number.changes)) (ap (λ (u : ViewerValue _). u.last) c.self.view_is) (c.in_ok-number.ensures.full full)) in
    record {
      one_measure = ap f made.widths ∙ ap (λ (u : ViewerValue _). f u.surface.widths) c.self.view_is ∙ c.requires.follows.one_measure;
      leads = c.following_laws.ensures.same (f s.widths) (screen_of c.add_changes.new.self) (screen_of s) c.in_ok-number.number s.log (returns-clause-shown g c) c.in_ok-number.ensures.number;
      full = λ full. c.full_following_laws.ensures.same (f s.widths) (full_of c.add_changes.new.self) (full_of s) c.in_ok-number.number s.log (full_shown full) c.in_ok-number.ensures.number;
    }

pub returns-clause-adds : goal.returns-clause-adds
returns-clause-adds g c =
    let f = measure g.W.Widths.width_of in
    let s = c.args.surface.now in
    let shown = c.self.inside.shown in
    let new = c.add_changes.new.self in
    let list : map change_value c.in_ok-copied.field-0.items ≡ answer_for s c.self.inside.last =
    c.in_ok-copied.ensures ∙ answer_is s c.self.inside.last (knows s c.self.inside.last) (stream_of c.in_ok-number.changes) refl (λ is. (c.in_ok-number.ensures.due is).same) c.in_ok-number.ensures.entries in
    inl (subst (λ (v : ViewerValue _). MakesOrRefuses (f v.surface.widths) v.surface (answer_for s v.last) (Ok tt) new) c.self.view_is
    (subst (λ (cs : List ChangeValue). MakesOrRefuses (f shown.widths) shown cs (Ok tt) new) list
    (adds_made (f shown.widths) shown new (map change_value c.in_ok-copied.field-0.items) _ _ c.in_ok-add_changes.ensures.adds)))

pub returns-in_err-add_changes-clause-adds : goal.returns-in_err-add_changes-clause-adds
returns-in_err-add_changes-clause-adds g c =
    let f = measure g.W.Widths.width_of in
    let s = c.args.surface.now in
    let v = c.args.self.now in
    let shown = c.self.inside.shown in
    let new = c.add_changes.new.self in
    let e = c.in_err-add_changes.field-0.0 in
    let n = next_number shown.log - 1 + vec_len c.in_ok-copied.field-0 in
    let list : map change_value c.in_ok-copied.field-0.items ≡ answer_for s c.self.inside.last =
    c.in_ok-copied.ensures ∙ answer_is s c.self.inside.last (knows s c.self.inside.last) (stream_of c.in_ok-number.changes) refl (λ is. (c.in_ok-number.ensures.due is).same) c.in_ok-number.ensures.entries in
    returned (λ (r : Result _ _). MakesOrFails (f v.surface.widths) v.surface (answer_for s v.last) r new) e c.from_residual-in_err-add_changes.result c.from_residual-in_err-add_changes.ensures.1
    (inl (subst (λ (v : ViewerValue _). MakesOrRefuses (f v.surface.widths) v.surface (answer_for s v.last) (Err e) new) c.self.view_is
    (subst (λ (cs : List ChangeValue). MakesOrRefuses (f shown.widths) shown cs (Err e) new) list
    (adds_refused (f shown.widths) shown new (map change_value c.in_ok-copied.field-0.items) n e c.in_err-add_changes.ensures.adds))))

pub returns-in_err-add_changes-clause-no_scroll : goal.returns-in_err-add_changes-clause-no_scroll
returns-in_err-add_changes-clause-no_scroll g c is =
    let f = measure g.W.Widths.width_of in
    let shown = c.self.inside.shown in
    let e = c.in_err-add_changes.field-0.0 in
    let n = next_number shown.log - 1 + vec_len c.in_ok-copied.field-0 in
    let told = err_from_is_err_and c.from_residual-in_err-add_changes.result c.from_residual-in_err-add_changes.ensures.1 in
    let errs : SurfaceError → Result (Unit {0}) SurfaceError = λ x. Err x in
    let both : errs e ≡ errs ScrollRegion = ap errs (sym told.2) ∙ sym told.1 ∙ is in
    let scrolls : e ≡ ScrollRegion = cc in
    let height : c.args.surface.now.height ≡ shown.height = sym (ap (λ (v : ViewerValue _). v.surface.height) c.self.view_is ∙ c.requires.same_height) in
    let fits : regions_fit shown.height (map change_value c.in_ok-copied.field-0.items) ≡ true =
    subst (λ (cs : List ChangeValue). regions_fit shown.height cs ≡ true) (sym c.in_ok-copied.ensures) (subst (λ h. regions_fit h (stream_of c.in_ok-number.changes) ≡ true) height c.in_ok-number.ensures.regions) in
    never_scrolls (f shown.widths) shown c.add_changes.new.self (map change_value c.in_ok-copied.field-0.items) n e c.in_err-add_changes.ensures.adds fits scrolls

-- Answers of a stream that are taken one at a time.
use Rattle.std.proofs.Common.{◌≡◌, ◌⊎◌, inl, inr, ℕ, zero, suc, ◌+◌, ◌∙◌, false, true, List, [], ◌∷◌, ◌++◌, length, length-append, append_assoc, append-nil, refl, sym, ap, subst, arith}
use Rattle.std.proofs.lemmas.Bool.{true≢false}
use Rattle.std.specs.Prelude.{Bool, Option, Some, None, Ok, Err, if◌then◌else◌, is_some, not}
use Rattle.termwiz_share.specs.Client.{ClientValue, Shown, fits, shown_by}
use Rattle.termwiz_share.specs.Feeding.{TakesNext}
use Rattle.termwiz_share.specs.Histories.{ClientFollows, FollowsNext, Given, HasKept, HasStopped, HasTakenFirst, after, after_all}
use Rattle.termwiz_share.specs.declared.error.ClientError.{ClientError}
use Rattle.termwiz_share.specs.declared.error.ClientError.TheVariants as errors
use Rattle.termwiz_share.specs.declared.taken.Taken.{Taken}
use Rattle.termwiz_share.specs.declared.taken.Taken.TheVariants as outcomes
use Rattle.termwiz_surface.specs.{FullScreen, full_of}
use Rattle.uses.specs.Watching.{ShowsEach, StopsShowing, TakesAFew, TakesInTurn, TakesSome, pictures, stale_in}

-- ---- one answer more

pub takes_more : {W : Type 0} (f : W → List ℕ → ℕ) (count : ℕ) (old mid new : ClientValue W) → TakesInTurn f count old mid → (o : Option Taken) (b : Bool) → is_some o ≡ not b → b ≡ false → TakesNext f mid (Ok o) new → TakesInTurn f (count + 1) old new
takes_more f count old mid new so_far (Some t) b is some next =
    let more : count + 1 ≡ suc count = omega arith in
    subst (λ (n : ℕ). TakesInTurn f n old new) (sym more) (mid, so_far, t, next)
takes_more f count old mid new so_far None b is some next = absurd (true≢false (sym (is ∙ ap not some)))

pub takes_none : {W : Type 0} (f : W → List ℕ → ℕ) (old : ClientValue W) → TakesAFew f old old
takes_none f old = (zero, refl)

pub takes_one : {W : Type 0} (f : W → List ℕ → ℕ) (old mid new : ClientValue W) → TakesAFew f old mid → (o : Option Taken) (t : Taken) → o ≡ Some t → TakesNext f mid (Ok o) new → TakesAFew f old new
takes_one f old mid new so_far o t is next = (suc so_far.0, (mid, so_far.1, t, subst (λ (p : Option Taken). TakesNext f mid (Ok p) new) is next))

after_more : (s : Shown) (given : List Given) (g : Given) → after_all s (given ++ g ∷ []) ≡ after (after_all s given) g
after_more s [] g = refl
after_more s (x ∷ given) g = after_more (after s x) given g

pictures_more : (s : Shown) (given : List Given) (g : Given) → pictures s (given ++ g ∷ []) ≡ pictures s given ++ (if fits (after_all s given) g.sent then g.shown ∷ [] else [])
pictures_more s [] g = append-nil (if fits s g.sent then g.shown ∷ [] else [])
pictures_more s (x ∷ given) g =
    ap (λ (l : List FullScreen). (if fits s x.sent then x.shown ∷ [] else []) ++ l) (pictures_more (after s x) given g)
    ∙ sym (append_assoc (if fits s x.sent then x.shown ∷ [] else []) (pictures (after s x) given) (if fits (after_all s (x ∷ given)) g.sent then g.shown ∷ [] else []))

stale_more : (s : Shown) (given : List Given) (g : Given) → stale_in s (given ++ g ∷ []) ≡ stale_in s given + (if fits (after_all s given) g.sent then 0 else 1)
stale_more s [] g = omega arith
stale_more s (x ∷ given) g = omega (arith, stale_more (after s x) given g)

module _ {W : Type 0} (f : W → List ℕ → ℕ) (histories : ℕ → ℕ → FullScreen) (sent : List Given) (future : List ℕ) (old : ClientValue W) where
  -- these answers are taken, and the client follows the others
  pub record HasTaken (now : ClientValue W) : Type 0 where
    pub given : List Given
    pub others : List Given
    pub all : sent ≡ given ++ others
    pub shows : shown_by now ≡ after_all (shown_by old) given
    pub follows : ClientFollows f histories others now future

  module _ (mid new : ClientValue W) (so_far : HasTaken mid) where
    abbrev pub Next : Taken → Type 0
    Next t = FollowsNext f histories so_far.others future mid (Ok (Some t)) new

    -- what is known of the one that is taken
    abbrev IsTaken : Taken → Given → Type 0
    IsTaken outcomes.Shown g = (fits (after_all (shown_by old) so_far.given) g.sent ≡ true) × (full_of new.surface ≡ g.shown)
    IsTaken (outcomes.Stale at) g = fits (after_all (shown_by old) so_far.given) g.sent ≡ false

    pub record HasOneMore (t : Taken) : Type 0 where
      pub has : HasTaken new
      pub first : Given
      pub given_is : has.given ≡ so_far.given ++ first ∷ []
      pub is : IsTaken t first

    more : (t : Taken) (one : HasTakenFirst f histories so_far.others future new) → shown_by new ≡ after (shown_by mid) one.first → IsTaken t one.first → HasOneMore t
    more t one shows is = record {
      has = record {
        given = so_far.given ++ one.first ∷ [];
        others = one.others;
        all = so_far.all ∙ ap (λ (l : List Given). so_far.given ++ l) one.all ∙ sym (append_assoc so_far.given (one.first ∷ []) one.others);
        shows = shows ∙ ap (λ (s : Shown). after s one.first) so_far.shows ∙ sym (after_more (shown_by old) so_far.given one.first);
        follows = one.follows;
      };
      first = one.first;
      given_is = refl;
      is = is;
    }

    pub taken_more : (t : Taken) → Next t → HasOneMore t
    taken_more outcomes.Shown n =
        let fit : fits (after_all (shown_by old) so_far.given) n.0.first.sent ≡ true = subst (λ (s : Shown). fits s n.0.first.sent ≡ true) so_far.shows n.1 in
        let g : Given = n.0.first in
        let now : shown_by new ≡ record { picture = g.shown; source = g.sent.source; number = g.sent.answer.number } = n.2 ∙ ap (λ (b : Bool). if b then record { picture = g.shown; source = g.sent.source; number = g.sent.answer.number } else shown_by mid) n.1 in
        let picture : full_of new.surface ≡ g.shown = ap (λ (s : Shown). s.picture) now in
        more outcomes.Shown n.0 n.2 (fit, picture)
    taken_more (outcomes.Stale at) n = more (outcomes.Stale at) n.0 (n.3 ∙ sym (ap (λ (b : Bool). if b then record { picture = n.0.first.shown; source = n.0.first.sent.source; number = n.0.first.sent.answer.number } else shown_by mid) n.1)) (subst (λ (s : Shown). fits s n.0.first.sent ≡ false) so_far.shows n.1)

  -- ---- a number of answers

  pub record HasTakenSome (count : ℕ) (now : ClientValue W) : Type 0 where
    pub has : HasTaken now
    pub counted : count ≡ length has.given

  pub some_none : ClientFollows f histories sent old future → HasTakenSome 0 old
  some_none follows = record { has = record { given = []; others = sent; all = refl; shows = refl; follows = follows }; counted = refl }

  some_more : (count : ℕ) (mid new : ClientValue W) (so_far : HasTakenSome count mid) (t : Taken) → Next mid new so_far.has t → HasTakenSome (count + 1) new
  some_more count mid new so_far t n =
      let one = taken_more mid new so_far.has t n in
      record { has = one.has; counted = omega (arith, so_far.counted, ap length one.given_is, length-append so_far.has.given (one.first ∷ [])) }

  some_last : (most count : ℕ) (mid new : ClientValue W) (so_far : HasTakenSome count mid) → FollowsNext f histories so_far.has.others future mid (Ok None) new → TakesSome f histories sent future most old count new
  some_last most count mid new so_far n = subst (TakesSome f histories sent future most old count) (sym n.1) (record {
    given = so_far.has.given;
    others = so_far.has.others;
    all = so_far.has.all;
    counted = so_far.counted;
    shows = so_far.has.shows;
    follows = so_far.has.follows;
    no_whole = λ few. n.0;
  })

  -- whether there is one
  pub some_next : (count : ℕ) (mid new : ClientValue W) (so_far : HasTakenSome count mid) (o : Option Taken) (b : Bool) → is_some o ≡ not b → b ≡ false → FollowsNext f histories so_far.has.others future mid (Ok o) new → HasTakenSome (count + 1) new
  some_next count mid new so_far (Some t) b is some n = some_more count mid new so_far t n
  some_next count mid new so_far None b is some n = absurd (true≢false (sym (is ∙ ap not some)))

  pub some_ended : (most count : ℕ) (mid new : ClientValue W) (so_far : HasTakenSome count mid) (o : Option Taken) (b : Bool) → is_some o ≡ not b → b ≡ true → FollowsNext f histories so_far.has.others future mid (Ok o) new → TakesSome f histories sent future most old count new
  some_ended most count mid new so_far None b is none n = some_last most count mid new so_far n
  some_ended most count mid new so_far (Some t) b is none n = absurd (true≢false (is ∙ ap not none))

  pub some_all : (most : ℕ) (mid : ClientValue W) → HasTakenSome most mid → TakesSome f histories sent future most old most mid
  some_all most mid so_far = record {
    given = so_far.has.given;
    others = so_far.has.others;
    all = so_far.has.all;
    counted = so_far.counted;
    shows = so_far.has.shows;
    follows = so_far.has.follows;
    no_whole = λ few. absurd (omega (arith, few));
  }

  -- ---- what is shown of them

  pub record HasShown (before : List FullScreen) (stale : ℕ) (now : ClientValue W) (screens : List FullScreen) : Type 0 where
    pub has : HasTaken now
    pub shown : screens ≡ before ++ pictures (shown_by old) has.given
    pub counted : stale ≡ stale_in (shown_by old) has.given

  module _ (before : List FullScreen) where
    pub shown_none : ClientFollows f histories sent old future → HasShown before 0 old before
    shown_none follows = record { has = record { given = []; others = sent; all = refl; shows = refl; follows = follows }; shown = sym (append-nil before); counted = refl }

    module _ (stale : ℕ) (mid new : ClientValue W) (screens : List FullScreen) (so_far : HasShown before stale mid screens) where
      abbrev given : List Given
      given = so_far.has.given

      pub shown_more : (newer : List FullScreen) → Next mid new so_far.has outcomes.Shown → newer ≡ screens ++ full_of new.surface ∷ [] → HasShown before stale new newer
      shown_more newer n added =
          let one = taken_more mid new so_far.has outcomes.Shown n in
          let last : pictures (shown_by old) one.has.given ≡ pictures (shown_by old) given ++ full_of new.surface ∷ [] =
          ap (pictures (shown_by old)) one.given_is ∙ pictures_more (shown_by old) given one.first ∙ (rw (one.is.0, one.is.1) refl) in
          let none : stale_in (shown_by old) one.has.given ≡ stale_in (shown_by old) given =
          ap (stale_in (shown_by old)) one.given_is ∙ stale_more (shown_by old) given one.first ∙ (rw one.is.0 (omega arith)) in
          record {
            has = one.has;
            shown = added ∙ ap (λ (l : List FullScreen). l ++ full_of new.surface ∷ []) so_far.shown ∙ append_assoc before (pictures (shown_by old) given) (full_of new.surface ∷ []) ∙ ap (λ (l : List FullScreen). before ++ l) (sym last);
            counted = so_far.counted ∙ sym none;
          }

      pub stale_one : (at : ℕ) → Next mid new so_far.has (outcomes.Stale at) → HasShown before (stale + 1) new screens
      stale_one at n =
          let one = taken_more mid new so_far.has (outcomes.Stale at) n in
          let none : pictures (shown_by old) one.has.given ≡ pictures (shown_by old) given =
          ap (pictures (shown_by old)) one.given_is ∙ pictures_more (shown_by old) given one.first ∙ (rw one.is (append-nil (pictures (shown_by old) given))) in
          let last : stale_in (shown_by old) one.has.given ≡ stale_in (shown_by old) given + 1 =
          ap (stale_in (shown_by old)) one.given_is ∙ stale_more (shown_by old) given one.first ∙ (rw one.is refl) in
          record {
            has = one.has;
            shown = so_far.shown ∙ ap (λ (l : List FullScreen). before ++ l) (sym none);
            counted = ap (λ (k : ℕ). k + 1) so_far.counted ∙ sym last;
          }

      pub shown_last : FollowsNext f histories so_far.has.others future mid (Ok None) new → ShowsEach f histories sent future old before stale new screens
      shown_last n = subst (λ (c : ClientValue W). ShowsEach f histories sent future old before stale c screens) (sym n.1) (record {
        given = given;
        others = so_far.has.others;
        all = so_far.has.all;
        shown = so_far.shown;
        counted = so_far.counted;
        follows = so_far.has.follows;
        no_whole = n.0;
      })

      -- ---- what is shown where the next one isn't taken

      kept_stopped : HasKept f histories so_far.has.others mid new → HasStopped f histories sent old new
      kept_stopped kept = record {
        given = given;
        others = so_far.has.others;
        all = so_far.has.all;
        shows = shows kept.shows;
        named = kept.named;
      }
        where
          shows : (shown_by new ≡ shown_by mid) ⊎ (new.number ≡ 0) → (shown_by new ≡ after_all (shown_by old) given) ⊎ (new.number ≡ 0)
          shows (inl same) = inl (same ∙ so_far.has.shows)
          shows (inr none) = inr none

      stops : (e : ClientError) → (e ≡ errors.Memory) ⊎ (e ≡ errors.Numbers) → HasStopped f histories sent old new → StopsShowing f histories sent future old before e new screens
      stops e wants stopped = record {
        wants = wants;
        given = given;
        others = so_far.has.others;
        all = so_far.has.all;
        shown = so_far.shown;
        stopped = stopped;
      }

      pub stops_next : (e : ClientError) → FollowsNext f histories so_far.has.others future mid (Err e) new → StopsShowing f histories sent future old before e new screens
      stops_next errors.Memory n = stops errors.Memory (inl refl) (kept_stopped n)
      stops_next errors.Numbers n = stops errors.Numbers (inr refl) (kept_stopped n)
      stops_next (errors.Fault x) n = absurd n
      stops_next (errors.Size at) n = absurd n

      -- or where it is taken, and there is no memory for its screen
      pub stops_behind : Next mid new so_far.has outcomes.Shown → StopsShowing f histories sent future old before errors.Memory new screens
      stops_behind n =
          let one = taken_more mid new so_far.has outcomes.Shown n in
          stops errors.Memory (inl refl) (record {
            given = one.has.given;
            others = one.has.others;
            all = one.has.all;
            shows = inl one.has.shows;
            named = one.has.follows.named;
          })

pub stopped_as_kept : {W : Type 0} (f : W → List ℕ → ℕ) (histories : ℕ → ℕ → FullScreen) (sent : List Given) (future : List ℕ) (old mid new : ClientValue W) (before screens : List FullScreen) (e : ClientError) → shown_by mid ≡ shown_by old → StopsShowing f histories sent future mid before e new screens → StopsShowing f histories sent future old before e new screens
stopped_as_kept f histories sent future old mid new before screens e same all = record {
  wants = all.wants;
  given = all.given;
  others = all.others;
  all = all.all;
  shown = subst (λ (s : Shown). screens ≡ before ++ pictures s all.given) same all.shown;
  stopped = record {
    given = all.stopped.given;
    others = all.stopped.others;
    all = all.stopped.all;
    shows = subst (λ (s : Shown). (shown_by new ≡ after_all s all.stopped.given) ⊎ (new.number ≡ 0)) same all.stopped.shows;
    named = all.stopped.named;
  };
}

-- who has kept the bytes shows what it showed
pub as_kept : {W : Type 0} (f : W → List ℕ → ℕ) (histories : ℕ → ℕ → FullScreen) (sent : List Given) (future : List ℕ) (old mid new : ClientValue W) (before screens : List FullScreen) (stale : ℕ) → shown_by mid ≡ shown_by old → ShowsEach f histories sent future mid before stale new screens → ShowsEach f histories sent future old before stale new screens
as_kept f histories sent future old mid new before screens stale same all = record {
  given = all.given;
  others = all.others;
  all = all.all;
  shown = subst (λ (s : Shown). screens ≡ before ++ pictures s all.given) same all.shown;
  counted = subst (λ (s : Shown). stale ≡ stale_in s all.given) same all.counted;
  follows = all.follows;
  no_whole = all.no_whole;
}

-- A client that follows a stream is served by the sources that gave the answers of it.
use Rattle.std.proofs.Common.{◌≡◌, ℕ, ◌≤◌, List, [], ◌∷◌, ◌++◌, Result, Ok, Err, sym, ap, subst, ◌∙◌, arith, inl, inr}
use Rattle.std.proofs.lemmas.Bool.{cases_Bool}
use Rattle.std.specs.List.{AllByRecursion}
use Rattle.termwiz_screen.specs.FullScreen.{FullScreen}
use Rattle.termwiz_screen.specs.Log.{next_number}
use Rattle.termwiz_surface.specs.History.{Names}
use Rattle.termwiz_surface.specs.Surface.{full_of}
use Rattle.termwiz_share.specs.Client.{ClientValue, Shown, fits, shown_by}
use Rattle.termwiz_share.specs.Histories.{ClientFollowsTo, Given, HasGiven, HasStopped, IsPictureNamed, after, after_all}
use Rattle.termwiz_share.specs.Serving.{Serves}
use Rattle.termwiz_share.specs.Source.{SourceValue}
use Rattle.termwiz_share.specs.declared.error.ClientError.{ClientError}
use Rattle.termwiz_share.specs.declared.error.ClientError.TheVariants as errors

-- what is shown of this source has a number that it had
abbrev NotAhead : ℕ → ℕ → Shown → Type 0
NotAhead source last s = s.source ≡ source → s.number ≤ last

abbrev AreHad : ℕ → ℕ → List Given → Type 0
AreHad source last gs = AllByRecursion (λ (g : Given). g.sent.source ≡ source → g.sent.answer.number ≤ last) gs

not_ahead_one : (source last : ℕ) (s : Shown) (g : Given) → NotAhead source last s → (g.sent.source ≡ source → g.sent.answer.number ≤ last) → NotAhead source last (after s g)
not_ahead_one source last s g shown had = elim (cases_Bool (fits s g.sent)) [
  | inl fit ↦ rw fit had
  | inr not ↦ rw not shown
]

not_ahead_all : (source last : ℕ) (s : Shown) (gs : List Given) → NotAhead source last s → AreHad source last gs → NotAhead source last (after_all s gs)
not_ahead_all source last s [] shown had = shown
not_ahead_all source last s (g ∷ gs) shown had = not_ahead_all source last (after s g) gs (not_ahead_one source last s g shown had.0) had.1

had_front : (source last : ℕ) (gs others : List Given) → AreHad source last (gs ++ others) → AreHad source last gs
had_front source last [] others had = tt
had_front source last (g ∷ gs) others had = (had.0, had_front source last gs others had.1)

module _ {W : Type 0} (f : W → List ℕ → ℕ) (histories : ℕ → ℕ → FullScreen) (sent : List Given) (future : List ℕ) (s : SourceValue W) (old new : ClientValue W) (given : HasGiven f histories sent s) (serves : Serves f s old) (widths : new.surface.widths ≡ old.surface.widths) where
  abbrev last : ℕ
  last = next_number s.surface.log

  -- it shows what its number names in the history of the source
  served_by : NotAhead s.number last (shown_by new) → IsPictureNamed histories (shown_by new) → Serves f s new
  served_by shown named = record {
    past = histories s.number;
    is_past = given.is_past;
    one_measure = ap f widths ∙ serves.one_measure;
    not_ahead = shown;
    named = λ same. subst (λ (n : ℕ). Names (histories n) new.number (full_of new.surface)) same named;
  }

  shown_after : (gs others : List Given) → sent ≡ gs ++ others → shown_by new ≡ after_all (shown_by old) gs → NotAhead s.number last (shown_by new)
  shown_after gs others all shows = subst (NotAhead s.number last) (sym shows) (not_ahead_all s.number last (shown_by old) gs serves.not_ahead (had_front s.number last gs others (subst (AreHad s.number last) all given.had)))

  stopped : HasStopped f histories sent old new → Serves f s new
  stopped h = served_by (elim h.shows [
    | inl shows ↦ shown_after h.given h.others h.all shows
    | inr none ↦ λ same. omega (arith, none)
  ]) h.named

  pub still_served : (result : Result ℕ ClientError) → ClientFollowsTo f histories sent future old result new → Serves f s new
  still_served (Ok n) h = served_by (shown_after h.given h.others h.all h.shows) h.named
  still_served (Err errors.Numbers) h = stopped h
  still_served (Err errors.Memory) h = stopped h
  still_served (Err (errors.Fault x)) h = absurd h
  still_served (Err (errors.Size at)) h = absurd h

-- What is shown of a stream: each answer is taken in turn, until the bytes make none or one is of
-- another size. One that is stale changes nothing.
use Rattle.std.specs.List.{All}
use Rattle.std.specs.Prelude.{◌≡◌, ℕ, ◌+◌, ◌-◌, Bool, true, List, [], ◌∷◌, ◌++◌, map, drop, length, Option, Some, None, Ok, Err, if◌then◌else◌}
use Rattle.termwiz_cell.specs.Width.{unicode_columns}
use Rattle.termwiz_share.specs.Client.{Shown, fits, has_other_size, shown_after, size_place, stale_place}
use Rattle.termwiz_share.specs.Feeding.{TakesAll}
use Rattle.termwiz_share.specs.Histories.{Given}
use Rattle.termwiz_share.specs.declared.error.ClientError.{ClientError}
use Rattle.termwiz_share.specs.declared.error.ClientError.TheVariants as errors
use Rattle.termwiz_share.specs.declared.taken.Taken.{Taken}
use Rattle.termwiz_share.specs.declared.taken.Taken.TheVariants as outcomes
use Rattle.termwiz_surface.specs.Schedule.{HasUnmarkedRows}
use Rattle.termwiz_surface.specs.{full_value}
use Rattle.termwiz_wire.specs.Answers.{answer_at}
use Rattle.termwiz_wire.specs.declared.fault.Limits.{Limits}
use Rattle.termwiz_wire.specs.declared.sent.SentAnswer.{SentAnswer}
use Rattle.sessions.specs.Frames.{first_shown, shown_with}
use Rattle.sessions.specs.declared.watch.runs.View.{View}
use Rattle.sessions.specs.declared.watch.runs.Watched.{Watched}

-- what a view has
abbrev pub viewed : View → Shown
viewed view =
    record { picture = full_value view.screen; source = view.source; number = view.number }

-- all, or the last one alone
abbrev pub kept : Bool → List Shown → List Shown
kept each shown = if each then shown else drop (length shown - 1) shown

-- a view of what is shown now is kept after the others, or in their place
pub record KeepsOne (each : Bool) (old : List View) (now : Shown) (new : List View) : Type 0 where
  pub view : View
  pub shows : viewed view ≡ now
  pub unmarked : HasUnmarkedRows view.screen.screen
  pub kept : new ≡ (if each then old else []) ++ view ∷ []

-- what comes of the answer of this number is kept, which was taken so
abbrev pub KeepsOutcome : Bool → Shown → ℕ → Taken → Watched → Watched → Type 0
KeepsOutcome each now number outcomes.Shown old new =
    KeepsOne each old.views.items now new.views.items ×
    (new ≡ record old { views = new.views })
KeepsOutcome each now number (outcomes.Stale at) old new =
    (new.stale.items ≡ old.stale.items ++ (number, at) ∷ []) ×
    (new ≡ record old { stale = new.stale })

-- what a client that shows s shows after an answer, or nothing where the answer is stale
abbrev pub shown_one : Shown → SentAnswer → List Shown
shown_one s a = if fits s a then shown_after unicode_columns s a ∷ [] else []

-- what is shown after each of these in turn
abbrev pub shown_each : Shown → List SentAnswer → List Shown
shown_each s [] = []
shown_each s (a ∷ more) = shown_one s a ++ shown_each (shown_after unicode_columns s a) more

-- the number of a stale answer, and where in it what doesn't fit begins
abbrev pub stale_one : ℕ → Shown → SentAnswer → List (ℕ × ℕ)
stale_one n s a = if fits s a then [] else (n, stale_place s a) ∷ []

-- of each of these, the first of which has the number n
abbrev pub stale_each : ℕ → Shown → List SentAnswer → List (ℕ × ℕ)
stale_each n s [] = []
stale_each n s (a ∷ more) =
    stale_one n s a ++ stale_each (n + 1) (shown_after unicode_columns s a) more

module _ (limits : Limits) where
  -- no answer is taken from the front of these bytes
  abbrev pub TakesNone : Shown → List ℕ → ClientError → Type 0
  TakesNone s bytes (errors.Fault fault) = answer_at unicode_columns limits bytes ≡ Err fault
  TakesNone s bytes (errors.Size at) =
      (a : SentAnswer) × (left : List ℕ) ×
      (answer_at unicode_columns limits bytes ≡ Ok (a, left)) × (has_other_size s a ≡ true) ×
      (at ≡ size_place s a)
  TakesNone s bytes _ = ⊥

  -- `count` answers were taken: either the bytes end there, or the next one isn't taken
  abbrev pub EndsAt : Shown → List ℕ → ℕ → Option (ℕ × ClientError) → Type 0
  EndsAt s rest count None = rest ≡ []
  EndsAt s rest count (Some fault) =
      (rest ≡ [] → ⊥) × (fault.0 ≡ count + 1) × TakesNone s rest fault.1

  -- these answers of the bytes are taken, with this end
  pub record TakesUpTo (bytes : List ℕ) (given : List SentAnswer)
      (fault : Option (ℕ × ClientError)) : Type 0 where
    pub last : Shown
    pub rest : List ℕ
    pub takes : TakesAll unicode_columns limits first_shown bytes given last rest
    pub ends : EndsAt last rest (length given) fault

  -- what is shown of these bytes, which answers are stale, and why no more are taken
  pub record IsWatched (bytes : List ℕ) (each : Bool) (w : Watched) : Type 0 where
    pub given : List SentAnswer
    pub takes : TakesUpTo bytes given w.fault
    pub views : map viewed w.views.items ≡ kept each (shown_each first_shown given)
    pub unmarked : All (λ (view : View). HasUnmarkedRows view.screen.screen) w.views.items
    pub stale : w.stale.items ≡ stale_each 1 first_shown given

-- after each frame its screen is shown, or after the last one alone
pub record ShowsFrames (each : Bool) (frames : List Given) (w : Watched) : Type 0 where
  pub views : map viewed w.views.items ≡ kept each (map shown_with frames)
  pub unmarked : All (λ (view : View). HasUnmarkedRows view.screen.screen) w.views.items
  pub stale : w.stale.items ≡ []
  pub fault : w.fault ≡ None

-- What one event makes of a surface, its viewers and the answers that are kept.
use Rattle.std.specs.Prelude.{◌≡◌, ℕ, ◌≤◌, false, List, [], ◌∷◌, ◌++◌, length, map, Ok, Err}
use Rattle.std.specs.List.{All}
use Rattle.termwiz_surface.specs.Accepting.{Takes}
use Rattle.termwiz_surface.specs.Answer.{AnswerValue, Carries}
use Rattle.termwiz_surface.specs.Asking.{knows, own_repaint}
use Rattle.termwiz_surface.specs.Carried.{IsGivenBy}
use Rattle.termwiz_surface.specs.Following.{ViewerValue}
use Rattle.termwiz_surface.specs.History.{Names, IsPast}
use Rattle.termwiz_screen.specs.Log.{next_number}
use Rattle.termwiz_surface.specs.ManySchedule.{Held, ManyState, AllowsMany}
use Rattle.termwiz_screen.specs.Picture.{screens}
use Rattle.termwiz_surface.specs.Schedule.{HasUnmarkedRows}
use Rattle.termwiz_screen.specs.Screen.{Screen}
use Rattle.termwiz_screen.specs.ScreenValue.{screen_value}
use Rattle.termwiz_surface.specs.Surface.{SurfaceValue, screen_of}
use Rattle.termwiz_surface.specs.declared.surface.SurfaceError.TheVariants as refused
use Rattle.termwiz_surface.specs.declared.view.many.ManyEvent.{ManyEvent}
use Rattle.termwiz_surface.specs.declared.view.many.ManyOutcome.{ManyOutcome}
use Rattle.termwiz_surface.specs.declared.view.many.ManyOutcome.TheVariants.{Kept, Accepted, NotAccepted, Refused}

module _ {W : Type 0} where
  -- the state, where these answers are held
  abbrev pub many_state : SurfaceValue W → List (ViewerValue W) → List Held → ManyState W
  many_state s viewers held = record { surface = s; answers = held; viewers = viewers }

  -- the viewer measures as the surface does, and shows what its number names, which the surface had
  pub record IsNamed (measure_of : W → List ℕ → ℕ) (past : ℕ → Screen) (s : SurfaceValue W)
      (v : ViewerValue W) : Type 0 where
    pub one_measure : measure_of v.surface.widths ≡ measure_of s.widths
    pub not_ahead : v.last ≤ next_number s.log
    pub names : Names past v.last (screen_of v.surface)

  -- the surface gave the answer, and it leads to the screen that it had then
  pub record IsHeld (measure_of : W → List ℕ → ℕ) (past : ℕ → Screen) (s : SurfaceValue W)
      (h : Held) : Type 0 where
    pub not_ahead : h.answer.number ≤ next_number s.log
    pub carries : Carries screens (measure_of s.widths) past h.answer h.screen

  -- the surface's numbers so far name screens, those of all its viewers and answers among them
  pub record Remembers (measure_of : W → List ℕ → ℕ) (s : SurfaceValue W)
      (viewers : List (ViewerValue W)) (answers : List AnswerValue) (held : List Held) :
      Type 0 where
    pub past : ℕ → Screen
    pub is_past : IsPast screens (measure_of s.widths) past (screen_of s) s.log
    pub answers_are : map (λ (h : Held). h.answer) held ≡ answers
    pub held_so : All (IsHeld measure_of past s) held
    pub viewers_so : All (IsNamed measure_of past s) viewers

  -- the answer for a number is kept as the last one
  abbrev pub AnswersTo :
      (W → List ℕ → ℕ) → SurfaceValue W → ℕ → List AnswerValue → ManyOutcome → List AnswerValue →
      Type 0
  AnswersTo measure_of s n old (Kept k) new =
      (k ≡ length old) ×
      ((a : AnswerValue) × IsGivenBy screens measure_of s n a × (new ≡ old ++ a ∷ []) ×
      (knows s n ≡ false → a.changes ≡ own_repaint s))
  AnswersTo measure_of s n old (Refused refused.Memory) new = new ≡ old
  AnswersTo measure_of s n old _ new = ⊥

  -- a viewer is given an answer, and the outcome has what it shows then where it accepts it
  abbrev pub TakesGiven :
      (W → List ℕ → ℕ) → ViewerValue W → AnswerValue → ManyOutcome → ViewerValue W → Type 0
  TakesGiven measure_of old a (Accepted n screen) new =
      Takes (measure_of old.surface.widths) old a (Ok n) new ×
      (screen_value screen ≡ screen_of new.surface)
      ×
      ((past : ℕ → Screen) (s : Screen) →
      Carries screens (measure_of old.surface.widths) past a s →
      Names past old.last (screen_of old.surface) → screen_of new.surface ≡ s)
      ×
      HasUnmarkedRows screen
  TakesGiven measure_of old a (NotAccepted e) new =
      Takes (measure_of old.surface.widths) old a (Err e) new
  TakesGiven measure_of old a _ new = ⊥

  pub record DeliversTo (measure_of : W → List ℕ → ℕ) (old : ViewerValue W) (a : AnswerValue)
      (outcome : ManyOutcome) (new : ViewerValue W) : Type 0 where
    pub takes : TakesGiven measure_of old a outcome new
    pub names :
        (past : ℕ → Screen) (s : Screen) →
        Carries screens (measure_of old.surface.widths) past a s →
        Names past old.last (screen_of old.surface) → Names past new.last (screen_of new.surface)

  -- the schedule allows the event's outcome, and the numbers still name what they named
  pub record ServesEvent (measure_of : W → List ℕ → ℕ) (s : SurfaceValue W)
      (viewers : List (ViewerValue W)) (held : List Held) (event : ManyEvent W)
      (outcome : ManyOutcome) (t : SurfaceValue W) (after : List (ViewerValue W))
      (answers : List AnswerValue) : Type 0 where
    pub later : List Held
    pub remembers : Remembers measure_of t after answers later
    pub allows :
        AllowsMany measure_of (many_state s viewers held) event outcome (many_state t after later)

-- Which outcomes a list of events may have on one surface and several viewers, whose answers are
-- kept, and delivered late, repeatedly, in any order, or never.
use Rattle.std.specs.Bool.{⊤}
use Rattle.std.specs.Prelude.{◌≡◌, ◌⊎◌, false, ℕ, ◌<◌, ◌≤◌, List, [], ◌∷◌, ◌++◌, length, slice_index_or, set, replicate, Ok, Err}
use Rattle.termwiz_screen.specs.Picture.{screens}
use Rattle.termwiz_screen.specs.Screen.{Screen}
use Rattle.termwiz_screen.specs.ScreenValue.{screen_value}
use Rattle.termwiz_surface.specs.Answer.{AnswerValue}
use Rattle.termwiz_surface.specs.Asking.{knows, own_repaint}
use Rattle.termwiz_surface.specs.Carried.{IsGivenBy}
use Rattle.termwiz_surface.specs.Following.{ViewerValue, blank_viewer}
use Rattle.termwiz_surface.specs.Resizing.{Resizes}
use Rattle.termwiz_surface.specs.Surface.{IsSurfaceSize, SurfaceValue, blank_surface, screen_of}
use Rattle.termwiz_surface.specs.declared.surface.SurfaceError.TheVariants as refused
use Rattle.termwiz_surface.specs.Accepting.{Takes}
use Rattle.termwiz_surface.specs.Schedule.{Acts, HasUnmarkedRows, IsInRange}
use Rattle.termwiz_surface.specs.declared.view.Event.TheVariants as event
use Rattle.termwiz_surface.specs.declared.view.many.ManyEvent.{ManyEvent}
use Rattle.termwiz_surface.specs.declared.view.many.ManyEvent.TheVariants.{On, AnswerFor, Deliver, ResizeViewer}
use Rattle.termwiz_surface.specs.declared.view.many.ManyOutcome.{ManyOutcome}
use Rattle.termwiz_surface.specs.declared.view.many.ManyOutcome.TheVariants.{Of, Kept, Accepted, NotAccepted, Done, Refused, NoSuch}

-- an answer that is kept, and the screen that the surface had when it gave it
pub record Held : Type 0 where
  pub answer : AnswerValue
  pub screen : Screen

-- a surface, the answers that it gave, and its viewers
pub record ManyState (W : Type 0) : Type 0 where
  pub surface : SurfaceValue W
  pub answers : List Held
  pub viewers : List (ViewerValue W)

-- a blank surface of this size, no full one, and n blank viewers of it
abbrev pub first_many : {W : Type 0} → W → ℕ → ℕ → ℕ → ManyState W
first_many widths w h n =
    let s = blank_surface widths w h false in
    record { surface = s; answers = []; viewers = replicate n (blank_viewer s) }

abbrev pub IsManyInRange : {W : Type 0} → ManyEvent W → Type 0
IsManyInRange (On e) = IsInRange e
IsManyInRange (ResizeViewer v w h) = IsSurfaceSize w h
IsManyInRange _ = ⊤

-- element k of the list is x
pub record IsAt {X : Type 0} (xs : List X) (k : ℕ) (x : X) : Type 0 where
  pub inside : k < length xs
  pub is : slice_index_or xs k x ≡ x

module _ {W : Type 0} where
  -- viewer v, and what it is afterwards
  pub record Turns (v : ℕ) (old : ManyState W) (viewer after : ViewerValue W) (new : ManyState W) :
      Type 0 where
    pub has : IsAt old.viewers v viewer
    pub new_is : new ≡ record old { viewers = set old.viewers v after }

  -- a viewer takes another size, or nothing has changed
  abbrev pub ResizesAs : ViewerValue W → ℕ → ℕ → ManyOutcome → ViewerValue W → Type 0
  ResizesAs old w h Done new = (new.last ≡ 0) × Resizes old.surface w h (Ok tt) new.surface
  ResizesAs old w h (Refused e) new = Resizes old.surface w h (Err e) new.surface × (new ≡ old)
  ResizesAs old w h _ new = ⊥

  pub record TakesOwnSize (old : ManyState W) (v w h : ℕ) (outcome : ManyOutcome)
      (new : ManyState W) : Type 0 where
    pub viewer : ViewerValue W
    pub after : ViewerValue W
    pub resizes : ResizesAs viewer w h outcome after
    pub turns : Turns v old viewer after new

module _ {W : Type 0} (measure_of : W → List ℕ → ℕ) where
  -- the surface answers viewer v, and the answer is kept as the last one
  pub record KeepsAnswer (old : ManyState W) (v k : ℕ) (new : ManyState W) : Type 0 where
    pub viewer : ViewerValue W
    pub answer : AnswerValue
    pub has : IsAt old.viewers v viewer
    pub number : k ≡ length old.answers
    pub given : IsGivenBy screens measure_of old.surface viewer.last answer
    pub entries : knows old.surface viewer.last ≡ false → answer.changes ≡ own_repaint old.surface
    pub new_is :
        new ≡
        record old {
          answers = old.answers ++
              record { answer = answer; screen = screen_of old.surface } ∷ [];
        }

  -- a kept answer is delivered to a viewer; one that accepts it shows what the surface showed when
  -- it gave the answer, and the outcome has it
  abbrev pub Receives : ViewerValue W → Held → ManyOutcome → ViewerValue W → Type 0
  Receives old held (Accepted n screen) new =
      Takes (measure_of old.surface.widths) old held.answer (Ok n) new ×
      (screen_value screen ≡ held.screen) × (screen_of new.surface ≡ held.screen) ×
      HasUnmarkedRows screen
  Receives old held (NotAccepted e) new =
      Takes (measure_of old.surface.widths) old held.answer (Err e) new
  Receives old held _ new = ⊥

  -- answer k is delivered to viewer v
  pub record Delivers (old : ManyState W) (v k : ℕ) (outcome : ManyOutcome) (new : ManyState W) :
      Type 0 where
    pub viewer : ViewerValue W
    pub after : ViewerValue W
    pub held : Held
    pub has : IsAt old.answers k held
    pub receives : Receives viewer held outcome after
    pub turns : Turns v old viewer after new

  -- the event may have this outcome, and go over from old to new
  abbrev pub AllowsMany : ManyState W → ManyEvent W → ManyOutcome → ManyState W → Type 0
  AllowsMany old (On e) (Of outcome) new =
      Acts measure_of old.surface e outcome new.surface ×
      (new ≡ record old { surface = new.surface })
  -- a surface among several viewers has none that follows it
  AllowsMany old (On e) NoSuch new = (e ≡ event.Follow) × (new ≡ old)
  AllowsMany old (AnswerFor v) (Kept k) new = KeepsAnswer old v k new
  AllowsMany old (AnswerFor v) (Refused refused.Memory) new = (v < length old.viewers) × (new ≡ old)
  AllowsMany old (AnswerFor v) NoSuch new = (length old.viewers ≤ v) × (new ≡ old)
  AllowsMany old (Deliver v k) NoSuch new =
      ((length old.viewers ≤ v) ⊎ (length old.answers ≤ k)) × (new ≡ old)
  AllowsMany old (Deliver v k) outcome new = Delivers old v k outcome new
  AllowsMany old (ResizeViewer v w h) NoSuch new = (length old.viewers ≤ v) × (new ≡ old)
  AllowsMany old (ResizeViewer v w h) outcome new = TakesOwnSize old v w h outcome new
  -- no other outcome comes
  AllowsMany old _ _ new = ⊥

-- the events may have these outcomes, and go over from old to new
pub data RunsMany {W : Type 0} (measure_of : W → List ℕ → ℕ) :
    ManyState W → List (ManyEvent W) → List ManyOutcome → ManyState W → Type 0 where
  Ended : (s : ManyState W) → RunsMany measure_of s [] [] s
  Next :
      (old mid new : ManyState W) (e : ManyEvent W) (outcome : ManyOutcome)
      (events : List (ManyEvent W)) (outcomes : List ManyOutcome)
      → AllowsMany measure_of old e outcome mid → RunsMany measure_of mid events outcomes new →
      RunsMany measure_of old (e ∷ events) (outcome ∷ outcomes) new

-- the outcomes are those of some run from a blank surface and blank viewers
abbrev pub IsManySchedule :
    {W : Type 0} → (W → List ℕ → ℕ) → W → ℕ → ℕ → ℕ → List (ManyEvent W) → List ManyOutcome → Type 0
IsManySchedule {W = W} measure_of widths w h n events outcomes =
    (end : ManyState W) × RunsMany measure_of (first_many widths w h n) events outcomes end

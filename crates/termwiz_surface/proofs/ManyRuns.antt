-- What a surface, its viewers and the answers that are kept do is what the schedule for many
-- viewers allows, and their numbers still name what they named.
use Rattle.std.proofs.Common.{◌≡◌, ℕ, ◌<◌, ◌≤◌, inl, inr, List, [], ◌∷◌, ◌++◌, length, replicate, refl, sym, ap, subst, ◌∙◌, arith}
use Rattle.std.specs.Prelude.{get_or, set}
use Rattle.std.proofs.lemmas.List.{length-map, length-replicate, get_or-map, get_or-replicate, get_or_default, map-append}
use Rattle.std.proofs.lemmas.List.Elements.{All-push, All-set}
use Rattle.termwiz_surface.specs.Answer.{AnswerValue, Carries}
use Rattle.termwiz_surface.specs.Following.{ViewerValue, blank_viewer}
use Rattle.termwiz_surface.specs.History.{Names, IsPast, KeepsNames}
use Rattle.termwiz_screen.specs.Log.{next_number}
use Rattle.termwiz_screen.specs.Picture.{screens}
use Rattle.termwiz_surface.specs.ManySchedule.{Held, ManyState, Receives, ResizesAs, Delivers, TakesOwnSize, AllowsMany, RunsMany, Ended, Next}
use Rattle.termwiz_surface.specs.ManySteps.{many_state, IsNamed, IsHeld, Remembers, AnswersTo, TakesGiven, DeliversTo, ServesEvent}
use Rattle.termwiz_surface.specs.Schedule.{Acts}
use Rattle.termwiz_screen.specs.Screen.{Screen}
use Rattle.termwiz_surface.specs.Surface.{SurfaceValue, screen_of}
use Rattle.termwiz_surface.specs.declared.surface.SurfaceError.TheVariants as refused
use Rattle.termwiz_surface.specs.declared.view.Event.{Event}
use Rattle.termwiz_surface.specs.declared.view.Outcome.{Outcome}
use Rattle.termwiz_surface.specs.declared.view.many.ManyEvent.{ManyEvent}
use Rattle.termwiz_surface.specs.declared.view.many.ManyEvent.TheVariants.{On, AnswerFor, Deliver, ResizeViewer}
use Rattle.termwiz_surface.specs.declared.view.many.ManyOutcome.{ManyOutcome}
use Rattle.termwiz_surface.specs.declared.view.many.ManyOutcome.TheVariants.{Of, Kept, Accepted, NotAccepted, Done, Refused, NoSuch}
use Rattle.termwiz_surface.specs.declared.view.viewer.AcceptError.TheVariants.{Size, Stale, Numbers, Memory}
use Rattle.termwiz_surface.proofs.Remembering.{past-first, names-stay, answers-stay, given-carries}

pub RunsMany-push : {W : Type 0} {measure_of : W → List ℕ → ℕ} {a b : ManyState W} {events : List (ManyEvent W)} {outcomes : List ManyOutcome} (e : ManyEvent W) (outcome : ManyOutcome) (c : ManyState W)
    → RunsMany measure_of a events outcomes b → AllowsMany measure_of b e outcome c → RunsMany measure_of a (events ++ e ∷ []) (outcomes ++ outcome ∷ []) c
RunsMany-push e outcome c (Ended s) h = Next s c c e outcome [] [] h (Ended c)
RunsMany-push e outcome c (Next old mid new first o es os k r) h = Next old mid c first o (es ++ e ∷ []) (os ++ outcome ∷ []) k (RunsMany-push e outcome c r h)

module _ {W : Type 0} (f : W → List ℕ → ℕ) where
  -- a surface that goes on, among the same viewers and answers
  remembers-on : (s t : SurfaceValue W) (viewers : List (ViewerValue W)) (answers : List AnswerValue) (held : List Held) → Remembers f s viewers answers held → t.widths ≡ s.widths → KeepsNames (f s.widths) s t → Remembers f t viewers answers held
  remembers-on s t viewers answers held r w goes =
      let g = goes.screen r.past r.is_past in
      record {
        past = g.later;
        is_past = subst (λ m. IsPast screens m g.later (screen_of t) t.log) (sym (ap f w)) g.is_past;
        answers_are = r.answers_are;
        held_so = λ k d lt.
            let h = r.held_so k d lt in
            let x = get_or held k d in
            record {
              not_ahead = omega (arith, h.not_ahead, g.grows);
              carries = subst (λ m. Carries screens m g.later x.answer x.screen) (sym (ap f w)) (answers-stay screens (f s.widths) r.past g.later (next_number s.log) x.screen x.answer g.alike h.not_ahead h.carries);
            };
        viewers_so = λ k d lt.
            let v = r.viewers_so k d lt in
            let x = get_or viewers k d in
            record {
              one_measure = v.one_measure ∙ sym (ap f w);
              not_ahead = omega (arith, v.not_ahead, g.grows);
              names = names-stay r.past g.later x.last (screen_of x.surface) (g.alike x.last v.not_ahead) v.names;
            };
      }

  pub serves-act : (s t : SurfaceValue W) (viewers : List (ViewerValue W)) (answers : List AnswerValue) (held : List Held) (e : Event W) (outcome : Outcome) → t.widths ≡ s.widths → KeepsNames (f s.widths) s t → Acts f s e outcome t
      → Remembers f s viewers answers held → ServesEvent f s viewers held (On e) (Of outcome) t viewers answers
  serves-act s t viewers answers held e outcome w goes acts r = record { later = held; remembers = remembers-on s t viewers answers held r w goes; allows = (acts, refl) }

  pub serves-answer : (s : SurfaceValue W) (viewers : List (ViewerValue W)) (answers new : List AnswerValue) (held : List Held) (v : ℕ) (viewer : ViewerValue W) (outcome : ManyOutcome) → v < length viewers → viewer ≡ get_or viewers v viewer
      → AnswersTo f s viewer.last answers outcome new → Remembers f s viewers answers held → ServesEvent f s viewers held (AnswerFor v) outcome s viewers new
  serves-answer s viewers answers new held v viewer (Kept k) lt e h r =
      let a = h.1.0 in
      let x : Held = record { answer = a; screen = screen_of s } in
      record {
        later = held ++ x ∷ [];
        remembers = record {
          past = r.past;
          is_past = r.is_past;
          answers_are = map-append (λ (y : Held). y.answer) held (x ∷ []) ∙ ap (λ (l : List AnswerValue). l ++ a ∷ []) r.answers_are ∙ sym h.1.2;
          held_so = All-push (IsHeld f r.past s) held x r.held_so (record { not_ahead = omega (arith, h.1.1.number); carries = given-carries screens (f s.widths) r.past (screen_of s) s.log viewer.last a r.is_past h.1.1 });
          viewers_so = r.viewers_so;
        };
        allows = record {
          viewer = viewer;
          answer = a;
          has = record { inside = lt; is = sym e };
          number = h.0 ∙ ap length (sym r.answers_are) ∙ length-map held (λ (y : Held). y.answer);
          given = h.1.1;
          entries = h.1.3;
          new_is = refl;
        };
      }
  serves-answer s viewers answers new held v viewer (Refused refused.Memory) lt e h r = record {
    later = held;
    remembers = subst (λ (l : List AnswerValue). Remembers f s viewers l held) (sym h) r;
    allows = (lt, refl);
  }
  serves-answer s viewers answers new held v viewer (Refused refused.Numbers) lt e h r = absurd h
  serves-answer s viewers answers new held v viewer (Refused refused.ScrollRegion) lt e h r = absurd h
  serves-answer s viewers answers new held v viewer (Of o) lt e h r = absurd h
  serves-answer s viewers answers new held v viewer (Accepted n t) lt e h r = absurd h
  serves-answer s viewers answers new held v viewer (NotAccepted x) lt e h r = absurd h
  serves-answer s viewers answers new held v viewer Done lt e h r = absurd h
  serves-answer s viewers answers new held v viewer NoSuch lt e h r = absurd h

  -- a viewer that was given an answer
  module _ (viewer new : ViewerValue W) (a : AnswerValue) (t : Screen) (past : ℕ → Screen) (carries : Carries screens (f viewer.surface.widths) past a t) (names : Names past viewer.last (screen_of viewer.surface)) where
    received : (outcome : ManyOutcome) → TakesGiven f viewer a outcome new → Receives f viewer (record { answer = a; screen = t }) outcome new
    received (Accepted n told) h = let shows = h.2 past t carries names in (h.0, h.1 ∙ shows, shows, h.3)
    received (NotAccepted e) h = h
    received (Of o) h = absurd h
    received (Kept k) h = absurd h
    received Done h = absurd h
    received (Refused x) h = absurd h
    received NoSuch h = absurd h

    module _ (s : SurfaceValue W) (one_measure : f viewer.surface.widths ≡ f s.widths) (viewer_behind : viewer.last ≤ next_number s.log) (answer_behind : a.number ≤ next_number s.log) where
      named_now : (outcome : ManyOutcome) → TakesGiven f viewer a outcome new → Names past new.last (screen_of new.surface) → IsNamed f past s new
      named_now (Accepted n told) h shown = record { one_measure = ap f h.0.4.widths ∙ one_measure; not_ahead = omega (arith, h.0.3, h.0.2, answer_behind); names = shown }
      named_now (NotAccepted Size) h shown = subst (IsNamed f past s) (sym h.1) (record { one_measure = one_measure; not_ahead = viewer_behind; names = names })
      named_now (NotAccepted Stale) h shown = subst (IsNamed f past s) (sym h.2) (record { one_measure = one_measure; not_ahead = viewer_behind; names = names })
      named_now (NotAccepted Numbers) h shown =
          record { one_measure = ap (λ (x : ViewerValue W). f x.surface.widths) h.2 ∙ one_measure; not_ahead = omega (arith, ap (λ (x : ViewerValue W). x.last) h.2); names = shown }
      named_now (NotAccepted Memory) h shown = record {
        one_measure = elim h.2.surface [ inl same ↦ ap (λ (x : SurfaceValue W). f x.widths) same ∙ one_measure | inr k ↦ ap f k.0.widths ∙ one_measure ];
        not_ahead = omega (arith, h.2.last);
        names = shown;
      }
      named_now (Of o) h shown = absurd h
      named_now (Kept k) h shown = absurd h
      named_now Done h shown = absurd h
      named_now (Refused x) h shown = absurd h
      named_now NoSuch h shown = absurd h

  module _ (s : SurfaceValue W) (viewers : List (ViewerValue W)) (answers : List AnswerValue) (held : List Held) (v k : ℕ) (viewer new : ViewerValue W) (a : AnswerValue) (has_viewer : v < length viewers) (viewer_is : viewer ≡ get_or viewers v viewer)
      (has_answer : k < length answers) (answer_is : a ≡ get_or answers k a) (r : Remembers f s viewers answers held) where
    has_held : k < length held
    has_held = omega (arith, has_answer, ap length r.answers_are, length-map held (λ (y : Held). y.answer))

    -- the screen that the surface had when it gave the answer
    abbrev given_at : Screen
    given_at = (get_or held k (record { answer = a; screen = screen_of s })).screen

    abbrev answer_held : Held
    answer_held = record { answer = a; screen = given_at }

    held_is : get_or held k answer_held ≡ answer_held
    held_is = get_or_default held k answer_held (record { answer = a; screen = screen_of s }) has_held
        ∙ λ i. record { answer = (sym (get_or-map (λ (y : Held). y.answer) held k (record { answer = a; screen = screen_of s }) a has_held) ∙ ap (λ (l : List AnswerValue). get_or l k a) r.answers_are ∙ sym answer_is) i; screen = given_at }

    viewer_so : IsNamed f r.past s viewer
    viewer_so = subst (IsNamed f r.past s) (sym viewer_is) (r.viewers_so v viewer has_viewer)

    answer_so : IsHeld f r.past s answer_held
    answer_so = subst (IsHeld f r.past s) held_is (r.held_so k answer_held has_held)

    carries_now : Carries screens (f viewer.surface.widths) r.past a given_at
    carries_now = subst (λ m. Carries screens m r.past a given_at) (sym viewer_so.one_measure) answer_so.carries

    delivered : (outcome : ManyOutcome) → DeliversTo f viewer a outcome new → Delivers f (many_state s viewers held) v k outcome (many_state s (set viewers v new) held)
    delivered outcome d = record {
      viewer = viewer;
      after = new;
      held = answer_held;
      has = record { inside = has_held; is = held_is };
      receives = received viewer new a given_at r.past carries_now viewer_so.names outcome d.takes;
      turns = record { has = record { inside = has_viewer; is = sym viewer_is }; new_is = refl };
    }

    remembered : (outcome : ManyOutcome) → DeliversTo f viewer a outcome new → Remembers f s (set viewers v new) answers held
    remembered outcome d = record {
      past = r.past;
      is_past = r.is_past;
      answers_are = r.answers_are;
      held_so = r.held_so;
      viewers_so = All-set (IsNamed f r.past s) viewers v new
          (named_now viewer new a given_at r.past carries_now viewer_so.names s viewer_so.one_measure viewer_so.not_ahead answer_so.not_ahead outcome d.takes (d.names r.past given_at carries_now viewer_so.names))
          r.viewers_so;
    }

    pub serves-deliver : (outcome : ManyOutcome) → DeliversTo f viewer a outcome new → ServesEvent f s viewers held (Deliver v k) outcome s (set viewers v new) answers
    serves-deliver (Accepted n told) d = record { later = held; remembers = remembered (Accepted n told) d; allows = delivered (Accepted n told) d }
    serves-deliver (NotAccepted x) d = record { later = held; remembers = remembered (NotAccepted x) d; allows = delivered (NotAccepted x) d }
    serves-deliver (Of o) d = absurd d.takes
    serves-deliver (Kept n) d = absurd d.takes
    serves-deliver Done d = absurd d.takes
    serves-deliver (Refused x) d = absurd d.takes
    serves-deliver NoSuch d = absurd d.takes

  named_resized : (past : ℕ → Screen) (s : SurfaceValue W) (viewer new : ViewerValue W) (w h : ℕ) (outcome : ManyOutcome) → ResizesAs viewer w h outcome new → IsNamed f past s viewer → IsNamed f past s new
  named_resized past s viewer new w h Done k n = record { one_measure = ap f k.1.1.widths ∙ n.one_measure; not_ahead = omega (arith, k.0); names = record { named = λ ne. absurd (ne k.0) } }
  named_resized past s viewer new w h (Refused e) k n = subst (IsNamed f past s) (sym k.1) n
  named_resized past s viewer new w h (Of o) k n = absurd k
  named_resized past s viewer new w h (Kept j) k n = absurd k
  named_resized past s viewer new w h (Accepted j t) k n = absurd k
  named_resized past s viewer new w h (NotAccepted e) k n = absurd k
  named_resized past s viewer new w h NoSuch k n = absurd k

  module _ (s : SurfaceValue W) (viewers : List (ViewerValue W)) (answers : List AnswerValue) (held : List Held) (v w h : ℕ) (viewer new : ViewerValue W) (has : v < length viewers) (is : viewer ≡ get_or viewers v viewer) (r : Remembers f s viewers answers held) where
    remembers-resized : (outcome : ManyOutcome) → ResizesAs viewer w h outcome new → Remembers f s (set viewers v new) answers held
    remembers-resized outcome k = record {
      past = r.past;
      is_past = r.is_past;
      answers_are = r.answers_are;
      held_so = r.held_so;
      viewers_so = All-set (IsNamed f r.past s) viewers v new (named_resized r.past s viewer new w h outcome k (subst (IsNamed f r.past s) (sym is) (r.viewers_so v viewer has))) r.viewers_so;
    }

    takes : (outcome : ManyOutcome) → ResizesAs viewer w h outcome new → TakesOwnSize (many_state s viewers held) v w h outcome (many_state s (set viewers v new) held)
    takes outcome k = record { viewer = viewer; after = new; resizes = k; turns = record { has = record { inside = has; is = sym is }; new_is = refl } }

    pub serves-resize : (outcome : ManyOutcome) → ResizesAs viewer w h outcome new → ServesEvent f s viewers held (ResizeViewer v w h) outcome s (set viewers v new) answers
    serves-resize Done k = record { later = held; remembers = remembers-resized Done k; allows = takes Done k }
    serves-resize (Refused e) k = record { later = held; remembers = remembers-resized (Refused e) k; allows = takes (Refused e) k }
    serves-resize (Of o) k = absurd k
    serves-resize (Kept j) k = absurd k
    serves-resize (Accepted j t) k = absurd k
    serves-resize (NotAccepted e) k = absurd k
    serves-resize NoSuch k = absurd k

module _ {W : Type 0} (f : W → List ℕ → ℕ) where
  -- nothing has a number above 0 yet
  pub remembers-blank : (s : SurfaceValue W) (n : ℕ) → s.log ≡ record { first = 0; changes = [] } → Remembers f s (replicate n (blank_viewer s)) [] []
  remembers-blank s n e = record {
    past = λ _. screen_of s;
    is_past = subst (IsPast screens (f s.widths) (λ _. screen_of s) (screen_of s)) (sym e) (past-first screens (f s.widths) (λ _. screen_of s) (screen_of s));
    answers_are = refl;
    held_so = λ k d lt. absurd (omega arith);
    viewers_so = λ k d lt.
        let same : get_or (replicate n (blank_viewer s)) k d ≡ blank_viewer s = get_or-replicate n k (blank_viewer s) d (omega (arith, lt, length-replicate n (blank_viewer s))) in
        subst (IsNamed f (λ _. screen_of s) s) (sym same) (record { one_measure = refl; not_ahead = omega arith; names = record { named = λ ne. absurd (ne refl) } });
  }

-- How a client takes one answer, and one after another.
use Rattle.std.proofs.Common.{◌≡◌, ℕ, Option, Some, None, inl, inr, ◌<◌, true, false, List, [], ◌∷◌, ◌++◌, ◌-◌, length, take, drop, Result, Ok, Err, refl, sym, ap, subst, ◌∙◌, arith}
use Rattle.std.proofs.lemmas.Bool.{true≢false}
use Rattle.std.proofs.lemmas.List.{length-append, length-drop, take_all}
use Rattle.std.specs.Option.{is_some}
use Rattle.std.specs.Prelude.{◌+◌, ◌≤◌, Bool, ◌&&◌, not}
use Rattle.std.specs.Result.{is_err}
use Rattle.termwiz_cell.specs.ChangeValue.{ChangeValue}
use Rattle.termwiz_surface.specs.Unlogged.{AddsUnlogged}
use Rattle.termwiz_surface.specs.Surface.{SurfaceValue, full_of}
use Rattle.termwiz_surface.specs.declared.surface.SurfaceError.{SurfaceError}
use Rattle.termwiz_surface.proofs.Following.{full-made}
use Rattle.cbor.specs.Encoding.{head}
use Rattle.termwiz_wire.specs.MoreBytes.{Laws}
use Rattle.termwiz_wire.specs.Sent.{answer}
use Rattle.termwiz_wire.specs.declared.fault.Limits.{Limits}
use Rattle.termwiz_screen.specs.FullScreen.{FullScreen}
use Rattle.termwiz_screen.specs.Picture.{full_screens, played}
use Rattle.termwiz_surface.specs.Answer.{AnswerValue, is_repaint, suits}
use Rattle.termwiz_wire.specs.Answers.{answer_at}
use Rattle.termwiz_wire.specs.declared.sent.SentAnswer.{SentAnswer}
use Rattle.termwiz_share.specs.Client.{ClientValue, DisplayValue, SameSettings, Shown, blank_screen, display_of, fits, has_other_size, shown_after, shown_by}
use Rattle.termwiz_share.specs.Feeding.{AreCut, HasTaken, TakesWholeOnes, TakesNextOrNone, DisplayTakes, TakesAll, TakesNext, nameless, read_of, refusal, unnamed}
use Rattle.termwiz_share.specs.Source.{sent_by}
use Rattle.termwiz_share.specs.declared.error.ClientError.{ClientError}
use Rattle.termwiz_share.specs.declared.error.ClientError.TheVariants as errors
use Rattle.termwiz_share.specs.declared.taken.Taken.{Taken}
use Rattle.termwiz_share.specs.declared.taken.Taken.TheVariants as shows
use Rattle.termwiz_share.proofs.Fed.{TakesAll-push}

module _ (m : List ℕ → ℕ) (s : Shown) (source : ℕ) (a : AnswerValue) (p : FullScreen) where
  abbrev shown : Shown
  shown = record { picture = p; source = source; number = a.number }

  -- a repaint is taken from blanks
  pub repaint_taken : is_repaint a ≡ true → p ≡ played full_screens m (blank_screen a.width a.height) a.changes → (fits s (sent_by source a) ≡ true) × (has_other_size s (sent_by source a) ≡ false) × (shown ≡ shown_after m s (sent_by source a))
  repaint_taken repaint is = rw repaint (refl, refl, ap (λ (q : FullScreen). record { picture = q; source = source; number = a.number }) is)

  -- a delta that fits is taken from what is shown
  pub delta_taken : is_repaint a ≡ false → fits s (sent_by source a) ≡ true → suits s.picture.screen.width s.picture.screen.height a ≡ true → p ≡ played full_screens m s.picture a.changes → (fits s (sent_by source a) ≡ true) × (has_other_size s (sent_by source a) ≡ false) × (shown ≡ shown_after m s (sent_by source a))
  delta_taken delta fit size is = rw (fit, size, delta) (refl, refl, ap (λ (q : FullScreen). record { picture = q; source = source; number = a.number }) is)

-- an answer that doesn't fit has no other size, and makes nothing of what is shown
no_more : (b : Bool) → (b && false) ≡ false
no_more true = refl
no_more false = refl

pub no_size : (s : Shown) (a : SentAnswer) → fits s a ≡ false → has_other_size s a ≡ false
no_size s a unfit = rw unfit (no_more (not (is_repaint a.answer)))

pub none_taken : (m : List ℕ → ℕ) (s : Shown) (a : SentAnswer) → fits s a ≡ false → shown_after m s a ≡ s
none_taken m s a unfit = rw unfit refl

module _ {W : Type 0} (f : W → List ℕ → ℕ) where
  settings_then : (a b c : ClientValue W) → SameSettings a b → SameSettings b c → SameSettings a c
  settings_then a b c first second = record { widths = second.widths ∙ first.widths; limits = second.limits ∙ first.limits; stopped = second.stopped ∙ first.stopped }

  -- nothing is taken yet
  abbrev pub taken_none : (c : ClientValue W) → HasTaken f c c
  taken_none c = record { given = []; takes = (refl, refl); settings = record { widths = refl; limits = refl; stopped = refl } }

  -- an answer that is off the bytes
  pub record HasOne (old new : ClientValue W) : Type 0 where
    pub sent : SentAnswer
    pub read : read_of f old ≡ Ok (sent, new.kept)
    pub size : has_other_size (shown_by old) sent ≡ false
    pub shows : shown_by new ≡ shown_after (f old.surface.widths) (shown_by old) sent
    pub settings : SameSettings old new

  pub one_of : (old new : ClientValue W) (t : Taken) → TakesNextOrNone f old (Ok (Some t)) new → HasOne old new
  one_of old new shows.Shown s = record { sent = s.0; read = s.1; size = s.3; shows = s.4; settings = s.5 }
  one_of old new (shows.Stale at) s = record {
    sent = s.0;
    read = s.1;
    size = no_size (shown_by old) s.0 s.2;
    shows = ap shown_by s.4 ∙ sym (none_taken (f old.surface.widths) (shown_by old) s.0 s.2);
    settings = record { widths = ap (λ (c : ClientValue W). c.surface.widths) s.4; limits = ap (λ (c : ClientValue W). c.limits) s.4; stopped = ap (λ (c : ClientValue W). c.stopped) s.4 };
  }

  -- one answer more is taken
  abbrev taken_one : (old mid new : ClientValue W) → HasTaken f old mid → HasOne mid new → HasTaken f old new
  taken_one old mid new h s =
      let m : List ℕ → ℕ = f old.surface.widths in
      let is : answer_at m old.limits mid.kept ≡ Ok (s.sent, new.kept) = rw (ap f h.settings.widths, h.settings.limits) at s.read in
      let shown : shown_by new ≡ shown_after m (shown_by mid) s.sent = rw (ap f h.settings.widths) at s.shows in
      record {
        given = h.given ++ s.sent ∷ [];
        takes = subst (λ (v : Shown). TakesAll m old.limits (shown_by old) old.kept (h.given ++ s.sent ∷ []) v new.kept) (sym shown)
            (TakesAll-push m old.limits (shown_by old) old.kept h.given (shown_by mid) mid.kept s.sent new.kept h.takes is s.size);
        settings = settings_then old mid new h.settings s.settings;
      }

  -- `count` answers are taken of the bytes of a client that takes more
  pub record HasCounted (old : ClientValue W) (count : ℕ) (mid : ClientValue W) : Type 0 where
    pub has_taken : HasTaken f old mid
    pub counted : count ≡ length has_taken.given
    pub few : count + length mid.kept ≤ length old.kept

  pub counted_none : (c : ClientValue W) → HasCounted c 0 c
  counted_none c = record { has_taken = taken_none c; counted = refl; few = omega arith }

  next_is : (old mid new : ClientValue W) (r : Result (Option Taken) ClientError) → old.stopped ≡ None → HasTaken f old mid → TakesNext f mid r new → TakesNextOrNone f mid r new
  next_is old mid new r reading h (inl t) = absurd (let stopped : mid.stopped ≡ None = h.settings.stopped ∙ reading in let bad : Some t.0 ≡ None = sym t.1 ∙ stopped in let no_way : ⊥ = cc in no_way)
  next_is old mid new r reading h (inr t) = t.1

  pub counted_more : (old mid new : ClientValue W) (count : ℕ) (o : Option Taken) → old.stopped ≡ None → HasCounted old count mid → TakesNext f mid (Ok o) new → length new.kept < length mid.kept → (b : Bool) → b ≡ is_some o → b ≡ true → HasCounted old (count + 1) new
  counted_more old mid new count None reading h t shorter b is some = absurd (true≢false (sym some ∙ is))
  counted_more old mid new count (Some x) reading h t shorter b is some =
      let one : HasOne mid new = one_of mid new x (next_is old mid new (Ok (Some x)) reading h.has_taken t) in
      record {
        has_taken = taken_one old mid new h.has_taken one;
        counted = omega (arith, h.counted, length-append h.has_taken.given (one.sent ∷ []));
        few = omega (arith, h.few, shorter);
      }

  pub reads_all : (old mid new : ClientValue W) (count : ℕ) (o : Option Taken) → old.stopped ≡ None → HasCounted old count mid → TakesNext f mid (Ok o) new → (b : Bool) → b ≡ is_some o → b ≡ false → TakesWholeOnes f old (Ok count) new
  reads_all old mid new count (Some x) reading h t b is none = absurd (true≢false (sym is ∙ none))
  reads_all old mid new count None reading h t b is none = record { mid = mid; has_taken = h.has_taken; ends = (h.counted, next_is old mid new (Ok None) reading h.has_taken t) }

  pub reads_some : (old mid new : ClientValue W) (count : ℕ) (e : ClientError) → old.stopped ≡ None → HasCounted old count mid → TakesNext f mid (Err e) new → TakesWholeOnes f old (Err e) new
  reads_some old mid new count e reading h t = record { mid = mid; has_taken = h.has_taken; ends = next_is old mid new (Err e) reading h.has_taken t }

-- each answer has a byte
pub some_bytes : (m : List ℕ → ℕ) (a : SentAnswer) → 0 < length (answer m a)
unfolding answer head
some_bytes m a = omega arith

-- so what is left after it is shorter
pub left_shorter : (m : List ℕ → ℕ) (a : SentAnswer) (bytes : List ℕ) (n : ℕ) → bytes ≡ answer m a ++ drop n bytes → length (drop n bytes) < length bytes
left_shorter m a bytes n parts = omega (arith, ap length parts, length-append (answer m a) (drop n bytes), some_bytes m a)

-- a list that is made leads to what the surface shows then
pub made_of : {W : Type 0} (m : List ℕ → ℕ) (s t : SurfaceValue W) (made changes : List ChangeValue) (n : ℕ) (result : Result ℕ SurfaceError) → is_err result ≡ false → made ≡ changes → AddsUnlogged m s made n result t → (full_of t ≡ played full_screens m (full_of s) changes) × (t.widths ≡ s.widths)
made_of m s t made changes n (Ok k) e same (regions, numbers, number, (logged, makes, flushed)) =
    rw flushed (full-made m s logged made makes ∙ ap (λ (cs : List ChangeValue). played full_screens m (full_of s) cs) same, makes.widths)
made_of m s t made changes n (Err x) e same a = absurd (true≢false e)

-- all bytes from one on
pub slice_is : (bytes : List ℕ) (start : ℕ) → take (length bytes - start) (drop start bytes) ≡ drop start bytes
slice_is bytes start = take_all (length bytes - start) (drop start bytes) (omega (arith, length-drop start bytes))

-- a client that shows what it showed
same_but : {W : Type 0} (old new : ClientValue W) (why : Option ClientError) → display_of new ≡ display_of old → new.kept ≡ old.kept → new.limits ≡ old.limits → new.stopped ≡ why → new ≡ record old { stopped = why }
same_but {W = W} old new why shown kept limits stopped =
    let surface : new.surface ≡ old.surface = ap (λ (d : DisplayValue W). d.surface) shown in
    let source : new.source ≡ old.source = ap (λ (d : DisplayValue W). d.source) shown in
    let number : new.number ≡ old.number = ap (λ (d : DisplayValue W). d.number) shown in
    rw (← surface, ← source, ← number, ← kept, ← limits, ← stopped) refl

-- and one that shows it without a source and a number
unnamed_is : {W : Type 0} (old new : ClientValue W) → display_of new ≡ nameless (display_of old) → new.kept ≡ old.kept → new.limits ≡ old.limits → new.stopped ≡ old.stopped → new ≡ unnamed old
unnamed_is {W = W} old new shown kept limits stopped =
    let surface : new.surface ≡ old.surface = ap (λ (d : DisplayValue W). d.surface) shown in
    let source : new.source ≡ 0 = ap (λ (d : DisplayValue W). d.source) shown in
    let number : new.number ≡ 0 = ap (λ (d : DisplayValue W). d.number) shown in
    let is : record { surface = new.surface; source = new.source; number = new.number; kept = new.kept; limits = new.limits; stopped = new.stopped } ≡ unnamed old = rw (surface, source, number, kept, limits, stopped) refl in
    is

-- and one that shows it with other bytes left
same_left : {W : Type 0} (old new : ClientValue W) → display_of new ≡ display_of old → new.limits ≡ old.limits → new.stopped ≡ old.stopped → new ≡ record old { kept = new.kept }
same_left {W = W} old new shown limits stopped =
    let surface : new.surface ≡ old.surface = ap (λ (d : DisplayValue W). d.surface) shown in
    let source : new.source ≡ old.source = ap (λ (d : DisplayValue W). d.source) shown in
    let number : new.number ≡ old.number = ap (λ (d : DisplayValue W). d.number) shown in
    rw (← surface, ← source, ← number, ← limits, ← stopped) refl

-- an answer that is not taken stops the client before it
pub takes_stop : {W : Type 0} (f : W → List ℕ → ℕ) (old : ClientValue W) (a : SentAnswer) (rest : List ℕ) (e : ClientError) (new : ClientValue W) → read_of f old ≡ Ok (a, rest) → DisplayTakes f (display_of old) a (Err e) (display_of new) → new.kept ≡ old.kept → new.limits ≡ old.limits → new.stopped ≡ refusal old.stopped e → TakesNextOrNone f old (Err e) new
takes_stop f old a rest (errors.Fault x) new is t kept limits stopped = absurd t
takes_stop f old a rest (errors.Size at) new is t kept limits stopped = (a, rest, is, t.0, t.1, same_but old new (Some (errors.Size at)) t.2 kept limits stopped)
takes_stop f old a rest errors.Numbers new is t kept limits stopped = (a, rest, is, t.0, unnamed_is old new t.1 kept limits stopped)
takes_stop f old a rest errors.Memory new is (inl same) kept limits stopped = inl (same_but old new old.stopped same kept limits stopped)
takes_stop f old a rest errors.Memory new is (inr t) kept limits stopped = inr (record { source = t.source; number = t.number; kept = kept; settings = record { widths = t.widths; limits = limits; stopped = stopped } })

-- an answer that is taken is the next step
pub takes_step : {W : Type 0} (f : W → List ℕ → ℕ) (old new : ClientValue W) (a : SentAnswer) (t : Taken) → read_of f old ≡ Ok (a, new.kept) → DisplayTakes f (display_of old) a (Ok t) (display_of new) → new.limits ≡ old.limits → new.stopped ≡ old.stopped → TakesNextOrNone f old (Ok (Some t)) new
takes_step f old new a shows.Shown is t limits stopped = (a, is, t.0, t.1, t.2, record { widths = t.3; limits = limits; stopped = stopped })
takes_step f old new a (shows.Stale at) is t limits stopped = (a, is, t.0, t.1, same_left old new t.2 limits stopped)

-- where all bytes are used, more may make an answer
none_left : (bytes : List ℕ) (n : ℕ) → n ≡ length bytes → drop n bytes ≡ []
none_left bytes n is = none (drop n bytes) (omega (arith, length-drop n bytes, is))
  where
    none : (rest : List ℕ) → length rest ≡ 0 → rest ≡ []
    none [] e = refl
    none (b ∷ rest) e = absurd (omega (arith, e))

pub cut_at_end : (m : List ℕ → ℕ) (limits : Limits) (bytes kept : List ℕ) (n : ℕ) → Laws m limits → drop n bytes ≡ kept → n ≡ length bytes → AreCut m limits kept
cut_at_end m limits bytes kept n laws is all =
    let none : kept ≡ [] = sym is ∙ none_left bytes n all in
    rw none (record { fault = laws.goes.first; is = laws.goes.starts; cut = laws.goes.starts_cut })

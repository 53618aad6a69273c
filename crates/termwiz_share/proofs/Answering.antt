-- What a source answers, from what its surface gives.
use Rattle.std.proofs.Common.{◌≡◌, ◌⊎◌, ℕ, ◌==◌, ◌-◌, ◌^◌, ◌<◌, ◌≤◌, ◌&&◌, Bool, nat_le, if◌then◌else◌, le-leb, ap₂, true, false, List, [], ◌++◌, length, Result, Ok, Err, refl, sym, ap, subst, ◌∙◌, arith, inl, inr}
use Rattle.std.specs.Prelude.{IfOk, OnErr, OnOk, min}
use Rattle.std.proofs.lemmas.List.{append-nil}
use Rattle.cbor.specs.Encoding.{Extends}
use Rattle.std.proofs.Math.Nat.{le-max_left, le-max_right}
use Rattle.std.proofs.lemmas.Bool.{cases_Bool, eq-eqb, eqb-true, lt-leb, true≢false}
use Rattle.termwiz_cell.specs.CellValue.{space}
use Rattle.termwiz_cell.specs.ChangeValue.{ChangeValue}
use Rattle.termwiz_screen.specs.FullScreen.{HasFullSize}
use Rattle.termwiz_screen.specs.Log.{delta_limit, due, next_number}
use Rattle.termwiz_screen.specs.Picture.{full_screens}
use Rattle.termwiz_screen.proofs.Logs.{flushed_number}
use Rattle.termwiz_surface.specs.Answer.{AnswerValue, delta_of}
use Rattle.termwiz_surface.specs.Asking.{knows, own_repaint}
use Rattle.termwiz_surface.specs.Carried.{IsGivenBy}
use Rattle.termwiz_screen.specs.Printable.{IsPrintable}
use Rattle.termwiz_surface.specs.Surface.{IsSound, SurfaceValue, full_of, screen_of}
use Rattle.termwiz_surface.proofs.Remembering.{given-carries}
use Rattle.termwiz_surface.proofs.SoundRepaint.{sound_full_repaint}
use Rattle.termwiz_wire.proofs.RepaintWork.{full_repaint_borne}
use Rattle.termwiz_wire.specs.Sent.{EncodesWithin, IsSent, answer}
use Rattle.termwiz_wire.specs.Within.{IsBorne, answer_work}
use Rattle.termwiz_wire.specs.Work.{most_work, work_of}
use Rattle.termwiz_wire.specs.declared.sent.Ask.{Ask}
use Rattle.std.specs.Result.{is_err}
use Rattle.termwiz_share.specs.Responses.{HasDelta, HasRepaint, HasResponses}
use Rattle.termwiz_share.specs.declared.responses.Responses.{Responses}
use Rattle.termwiz_share.specs.Source.{Answers, IsResponse, PutsDelta, Responds, SourceValue, bytes_of, given_for, is_worth, most_bytes, number_asked, repaint_answer, response_bytes, sent_by, trimmed_surface}

abbrev with_base : AnswerValue → ℕ → AnswerValue
with_base a b = record a { base = b }

same_answer : (a : AnswerValue) (w h b n : ℕ) (cs : List ChangeValue) → a.width ≡ w → a.height ≡ h → a.base ≡ b → a.number ≡ n → a.changes ≡ cs → a ≡ record { width = w; height = h; base = b; number = n; changes = cs }
same_answer a w h b n cs p q r s t = rw (← p, ← q, ← s, ← t) (ap (with_base a) r)

-- number 0 is not known
none_known : {W : Type 0} (s : SurfaceValue W) (n : ℕ) → n ≡ 0 → knows s n ≡ false
none_known s n z = rw z refl

-- what a surface gives for no number is its repaint
pub made_repaint : {W : Type 0} (f : W → List ℕ → ℕ) (s : SurfaceValue W) (given : AnswerValue) → IsGivenBy full_screens f s 0 given → (knows s 0 ≡ false → given.changes ≡ own_repaint s) → given ≡ repaint_answer s
made_repaint f s given is entries =
    let none : knows s 0 ≡ false = none_known s 0 refl in
    same_answer given s.width s.height 0 (next_number s.log) (own_repaint s) is.width is.height (is.repaint none).0 is.number (entries none)

-- what is given for a number, as it is known and as its delta has few bytes
abbrev chosen : Bool → Bool → AnswerValue → AnswerValue → AnswerValue
chosen known few delta repaint = if known && few then delta else repaint

-- what isn't worth sending gives way
unless : (d r : AnswerValue) (known worth : Bool) → worth ≡ false → chosen known worth d r ≡ r
unless d r true false e = refl
unless d r true true e = absurd cc
unless d r false worth e = refl

module _ {W : Type 0} (f : W → List ℕ → ℕ) (s : SourceValue W) (n : ℕ) where
  abbrev delta : AnswerValue
  delta = delta_of s.surface n

  abbrev len : ℕ
  len = length (bytes_of f s delta)

  abbrev few_bytes : ℕ
  few_bytes = most_bytes s.surface.width s.surface.height

  abbrev effort : ℕ
  effort = work_of delta.width delta.height delta.changes

  abbrev few_steps : ℕ
  few_steps = most_work delta.width delta.height

  for_short : knows s.surface n ≡ true → len ≤ few_bytes → effort ≤ few_steps → given_for f s n ≡ delta
  for_short known few easy = rw (known, le-leb len few_bytes few, le-leb effort few_steps easy) refl

  for_long : few_bytes < len → given_for f s n ≡ repaint_answer s.surface
  for_long long = ap (λ (l : Bool). chosen (knows s.surface n) (l && nat_le effort few_steps) delta (repaint_answer s.surface)) (lt-leb len few_bytes long) ∙ unless delta (repaint_answer s.surface) (knows s.surface n) false refl

  for_hard : few_steps < effort → given_for f s n ≡ repaint_answer s.surface
  for_hard hard = ap (λ (l : Bool). chosen (knows s.surface n) (nat_le len few_bytes && l) delta (repaint_answer s.surface)) (lt-leb effort few_steps hard) ∙ unless delta (repaint_answer s.surface) (knows s.surface n) (nat_le len few_bytes && false) (never (nat_le len few_bytes))
    where
      never : (b : Bool) → (b && false) ≡ false
      never true = refl
      never false = refl

  for_unknown : knows s.surface n ≡ false → given_for f s n ≡ repaint_answer s.surface
  for_unknown un = ap (λ (k : Bool). chosen k (is_worth f s delta) delta (repaint_answer s.surface)) un

-- a full surface bears its repaint
pub repaint_borne : {W : Type 0} (f : W → List ℕ → ℕ) (s : SourceValue W) → s.surface.full ≡ true → IsPrintable (f s.surface.widths) (screen_of s.surface) → IsBorne (sent_by s.number (repaint_answer s.surface))
repaint_borne f s full printable = rw full (full_repaint_borne (f s.surface.widths) (full_of s.surface) printable)

module _ {W : Type 0} (f : W → List ℕ → ℕ) (s : SourceValue W) (n : ℕ) (sized : HasFullSize s.surface.width s.surface.height (full_of s.surface)) where
  -- a delta that is worth sending is given
  pub answers_delta : (before after : List ℕ) (most : ℕ) → most ≡ min (most_bytes s.surface.width s.surface.height) (2 ^ 64 - 1) → PutsDelta f s n most before true after → Answers f s n (delta_of s.surface n)
  answers_delta before after most is puts =
      let few : length (bytes_of f s (delta_of s.surface n)) ≤ most_bytes s.surface.width s.surface.height = omega (arith, puts.1, is) in
      record {
        asked = n;
        from = inr refl;
        is_given = record {
          width = refl;
          height = refl;
          number = refl;
          delta = λ known. (refl, refl);
          repaint = λ un. absurd (true≢false (sym puts.0 ∙ un));
        };
        sized = sized;
        few = omega (arith, few, le-max_left (most_bytes s.surface.width s.surface.height) (length (bytes_of f s (repaint_answer s.surface))));
        chosen = sym (for_short f s n puts.0 few puts.2);
        borne = puts.2;
      }

  -- and any other gives way to the repaint
  gives_way : (most : ℕ) → most ≡ min (most_bytes s.surface.width s.surface.height) (2 ^ 64 - 1) → ((knows s.surface n ≡ false) ⊎ (most_work s.surface.width s.surface.height < answer_work (sent_by s.number (delta_of s.surface n))) ⊎ ((most < length (bytes_of f s (delta_of s.surface n))) × (most < 2 ^ 64 - 1)))
      → given_for f s n ≡ repaint_answer s.surface
  gives_way most is (inl un) = for_unknown f s n un
  gives_way most is (inr (inl hard)) = for_hard f s n hard
  gives_way most is (inr (inr long)) = for_long f s n (omega (arith, long.0, long.1, is))

  pub answers_repaint : (before after : List ℕ) (most : ℕ) → most ≡ min (most_bytes s.surface.width s.surface.height) (2 ^ 64 - 1) → PutsDelta f s n most before false after → s.surface.full ≡ true → IsSound (f s.surface.widths) s.surface → f s.surface.widths space ≡ 1 → IsPrintable (f s.surface.widths) (screen_of s.surface)
      → Answers f s n (repaint_answer s.surface)
  answers_repaint before after most is puts full sound one printable = record {
    asked = 0;
    from = inl refl;
    is_given = record {
      width = refl;
      height = refl;
      number = refl;
      delta = λ known. absurd (true≢false (sym known ∙ none_known s.surface 0 refl));
      repaint = λ un. (refl, λ t same. rw full (sound_full_repaint (f s.surface.widths) s.surface sound one t same));
    };
    sized = sized;
    few = le-max_right (most_bytes s.surface.width s.surface.height) (length (bytes_of f s (repaint_answer s.surface)));
    chosen = sym (gives_way most is puts.1);
    borne = repaint_borne f s full printable;
  }

-- the source knows the same numbers without the changes that no answer needs, and the same is due from each
abbrev pub AnswersAlike : {W : Type 0} → SurfaceValue W → SurfaceValue W → Type 0
AnswersAlike s t = (n : ℕ) → (knows t n ≡ knows s n) × (knows s n ≡ true → due t.log n ≡ due s.log n)

module _ {W : Type 0} (s : SourceValue W) where
  abbrev now : SourceValue W
  now = record { surface = trimmed_surface s.surface; number = s.number }

  number_same : next_number now.surface.log ≡ next_number s.surface.log
  number_same = flushed_number s.surface.log (next_number s.surface.log - delta_limit s.surface.width s.surface.height)

  repaint_alike : repaint_answer now.surface ≡ repaint_answer s.surface
  repaint_alike = ap (λ (k : ℕ). record { width = s.surface.width; height = s.surface.height; base = 0; number = k; changes = own_repaint s.surface }) number_same

module _ {W : Type 0} (f : W → List ℕ → ℕ) (s : SourceValue W) (alike : AnswersAlike s.surface (trimmed_surface s.surface)) (n : ℕ) where
  -- the same is due from a number on, and given for it, by the surface that forgetting leaves
  delta_alike : knows s.surface n ≡ true → delta_of (now s).surface n ≡ delta_of s.surface n
  delta_alike known = ap₂ (λ (k : ℕ) (cs : List ChangeValue). record { width = s.surface.width; height = s.surface.height; base = n; number = k; changes = cs }) (number_same s) ((alike n).1 known)

  given_alike : given_for f (now s) n ≡ given_for f s n
  given_alike = elim (cases_Bool (knows s.surface n)) [
    | inr un ↦ for_unknown f (now s) n ((alike n).0 ∙ un) ∙ repaint_alike s ∙ sym (for_unknown f s n un)
    | inl known ↦ ap₂ (λ (k : Bool) (d : AnswerValue). chosen k (is_worth f s d) d (repaint_answer (now s).surface)) (alike n).0 (delta_alike known) ∙ ap (λ (r : AnswerValue). chosen (knows s.surface n) (is_worth f s (delta_of s.surface n)) (delta_of s.surface n) r) (repaint_alike s)
  ]

  -- and the answer is that
  pub is_given_for : (given : AnswerValue) → Answers f s n given → given ≡ given_for f (now s) n
  is_given_for given a = a.chosen ∙ sym given_alike

-- so its answer is a response then
module _ {W : Type 0} (f : W → List ℕ → ℕ) (s : SourceValue W) (alike : AnswersAlike s.surface (trimmed_surface s.surface)) (ask : Ask) (n : ℕ) (from : (n ≡ 0) ⊎ ((ask.source ≡ s.number) × (n ≡ ask.number))) (given : AnswerValue) (a : Answers f s n given) where
  given_now : IsGivenBy full_screens f (now s).surface a.asked given
  given_now = record {
    width = a.is_given.width;
    height = a.is_given.height;
    number = a.is_given.number ∙ sym (number_same s);
    delta = λ known.
        let before : knows s.surface a.asked ≡ true = sym (alike a.asked).0 ∙ known in
        let delta = a.is_given.delta before in
        (delta.0, delta.1 ∙ sym ((alike a.asked).1 before));
    repaint = λ un. a.is_given.repaint (sym (alike a.asked).0 ∙ un);
  }

  base_is : (given.base ≡ 0) ⊎ ((ask.source ≡ s.number) × (given.base ≡ ask.number))
  base_is = elim (cases_Bool (knows s.surface a.asked)) [
    | inr un ↦ inl (a.is_given.repaint un).0
    | inl known ↦ by (a.is_given.delta known).0 a.from from
  ]
    where
      by : given.base ≡ a.asked → (a.asked ≡ 0) ⊎ (a.asked ≡ n) → (n ≡ 0) ⊎ ((ask.source ≡ s.number) × (n ≡ ask.number)) → (given.base ≡ 0) ⊎ ((ask.source ≡ s.number) × (given.base ≡ ask.number))
      by base (inl none) other = inl (base ∙ none)
      by base (inr asked) (inl none) = inl (base ∙ asked ∙ none)
      by base (inr asked) (inr own) = inr (own.0, base ∙ asked ∙ own.1)

  pub is_response : (bytes : List ℕ) → bytes ≡ answer (f s.surface.widths) (sent_by s.number given) → IsSent (f s.surface.widths) (sent_by s.number given) → IsResponse f (now s) ask bytes
  is_response bytes encoded sent = record {
    given = given;
    encoded = encoded;
    is_sent = sent;
    width = a.is_given.width;
    height = a.is_given.height;
    sized = rw (a.is_given.width, a.is_given.height) a.sized;
    number = a.is_given.number ∙ sym (number_same s);
    from = base_is;
    carries = λ past is. given-carries full_screens (f s.surface.widths) past (full_of s.surface) (now s).surface.log a.asked given is given_now;
    few = rw (encoded, number_same s) a.few;
    borne = a.borne;
  }

-- what an ask names is a number of this source, or none
pub named_by : (source : ℕ) (ask : Ask) (n : ℕ) → n ≡ number_asked source ask → (n ≡ 0) ⊎ ((ask.source ≡ source) × (n ≡ ask.number))
named_by source ask n is = elim (cases_Bool (ask.source == source)) [
  | inl own ↦ inr (eqb-true ask.source source own, is ∙ ap (λ (b : Bool). if b then ask.number else 0) own)
  | inr other ↦ inl (is ∙ ap (λ (b : Bool). if b then ask.number else 0) other)
]

-- the bytes that are kept of the repaint are those of the surface that forgetting leaves
pub keeps_repaint : {W : Type 0} (f : W → List ℕ → ℕ) (s : SourceValue W) (t : SurfaceValue W) (bytes : List ℕ) → t ≡ trimmed_surface s.surface → HasRepaint f s bytes → HasRepaint f (record { surface = t; number = s.number }) bytes
keeps_repaint f s t bytes same (inl none) = inl none
keeps_repaint f s t bytes same (inr has) = subst (λ (v : SurfaceValue _). HasRepaint f (record { surface = v; number = s.number }) bytes) (sym same) (inr (
  has.0 ∙ ap (bytes_of f s) (sym (repaint_alike s)),
  subst (λ (a : AnswerValue). IsSent (f s.surface.widths) (sent_by s.number a)) (sym (repaint_alike s)) has.1,
))

module _ {W : Type 0} (f : W → List ℕ → ℕ) (s : SourceValue W) (alike : AnswersAlike s.surface (trimmed_surface s.surface)) (n most : ℕ) (bytes : List ℕ) where
  delta_stays : PutsDelta f s n most [] true bytes → PutsDelta f (now s) n most [] true bytes
  delta_stays is =
      let same = sym (delta_alike f s alike n is.0) in (
        (alike n).0 ∙ is.0,
        subst (λ (a : AnswerValue). length (bytes_of f s a) ≤ most) same is.1,
        subst (λ (a : AnswerValue). IsBorne (sent_by s.number a)) same is.2,
        subst (λ (a : AnswerValue). IsSent (f s.surface.widths) (sent_by s.number a)) same is.3,
        is.4 ∙ ap (bytes_of f s) same,
      )

keeps_delta : {W : Type 0} (f : W → List ℕ → ℕ) (s : SourceValue W) (t : SurfaceValue W) (n : ℕ) (bytes : List ℕ) → t ≡ trimmed_surface s.surface → AnswersAlike s.surface t → HasDelta f s n bytes → HasDelta f (record { surface = t; number = s.number }) n bytes
keeps_delta f s t n bytes same alike (inl none) = inl none
keeps_delta f s t n bytes same alike (inr is) = subst (λ (v : SurfaceValue _). HasDelta f (record { surface = v; number = s.number }) n bytes) (sym same) (inr (delta_stays f s (subst (AnswersAlike s.surface) same alike) n (min (most_bytes s.surface.width s.surface.height) (2 ^ 64 - 1)) bytes is))

-- the answers that are kept are those of the surface that forgetting leaves
pub keeps_responses : {W : Type 0} (f : W → List ℕ → ℕ) (s : SourceValue W) (t : SurfaceValue W) (r : Responses) → t ≡ trimmed_surface s.surface → AnswersAlike s.surface t → HasResponses f s r → HasResponses f (record { surface = t; number = s.number }) r
keeps_responses f s t r same alike has = (keeps_delta f s t r.from r.delta.items same alike has.0, keeps_repaint f s t r.repaint.items same has.1)

-- what is kept once a delta was made, or none was
pub has_delta : {W E : Type 0} (f : W → List ℕ → ℕ) (s : SourceValue W) (n most : ℕ) (bytes : List ℕ) (r : Result Bool E) → is_err r ≡ false → most ≡ min (most_bytes s.surface.width s.surface.height) (2 ^ 64 - 1) → IfOk r (λ put. PutsDelta f s n most [] put bytes) → HasDelta f s n bytes
has_delta f s n most bytes (Ok true) done is puts = inr (subst (λ (m : ℕ). PutsDelta f s n m [] true bytes) is puts)
has_delta f s n most bytes (Ok false) done is puts = inl puts.0
has_delta f s n most bytes (Err e) done is puts = absurd cc

-- nothing is said of a call that failed
pub failed : {A E : Type 0} (P : Type 0) (r : Result A E) → is_err r ≡ true → OnOk r P
failed P (Ok x) e = absurd cc
failed P (Err x) e = tt

-- a list that isn't empty
pub something : (xs : List ℕ) (len : ℕ) (is_empty : Bool) → len ≡ length xs → is_empty ≡ (len == 0) → is_empty ≡ false → xs ≡ [] → ⊥
something xs len is_empty count test e none = true≢false (sym (eq-eqb len 0 (count ∙ ap length none)) ∙ sym test ∙ e)

-- the bytes of what is given are the response's
pub response_is : {W : Type 0} (f : W → List ℕ → ℕ) (s : SourceValue W) (t : SurfaceValue W) (ask : Ask) (n : ℕ) (given : AnswerValue) → t ≡ trimmed_surface s.surface → AnswersAlike s.surface t → number_asked s.number ask ≡ n → Answers f s n given → (before after : List ℕ) → after ≡ before ++ bytes_of f s given → after ≡ before ++ response_bytes f (record { surface = t; number = s.number }) ask
response_is f s t ask n given same alike asked a before after whole =
    let is : given ≡ given_for f (record { surface = trimmed_surface s.surface; number = s.number }) n = is_given_for f s (subst (AnswersAlike s.surface) same alike) n given a in
    let is_now : given ≡ given_for f (record { surface = t; number = s.number }) (number_asked s.number ask) = is ∙ ap₂ (λ (v : SurfaceValue _) (k : ℕ). given_for f (record { surface = v; number = s.number }) k) (sym same) (sym asked) in
    whole ∙ ap (λ (b : List ℕ). before ++ b) (ap (bytes_of f s) is_now ∙ ap (λ (v : SurfaceValue _). bytes_of f (record { surface = v; number = s.number }) (given_for f (record { surface = t; number = s.number }) (number_asked s.number ask))) (sym same))

-- the bytes of what is given are the response's, also of the surface that forgetting leaves
pub response_of : {W : Type 0} (f : W → List ℕ → ℕ) (s : SourceValue W) (t : SurfaceValue W) (ask : Ask) (n : ℕ) (given : AnswerValue) → t ≡ trimmed_surface s.surface → AnswersAlike s.surface t → (n ≡ 0) ⊎ ((ask.source ≡ s.number) × (n ≡ ask.number)) → Answers f s n given → (before after : List ℕ) → after ≡ before ++ answer (f s.surface.widths) (sent_by s.number given) → IsSent (f s.surface.widths) (sent_by s.number given) → Responds f (record { surface = t; number = s.number }) ask before after
response_of f s t ask n given same alike from a before after whole sent =
    let bytes : List ℕ = answer (f s.surface.widths) (sent_by s.number given) in
    let response : IsResponse f (record { surface = trimmed_surface s.surface; number = s.number }) ask bytes = is_response f s (subst (AnswersAlike s.surface) same alike) ask n from given a bytes refl sent in
    record { bytes = bytes; appended = whole; response = subst (λ (v : SurfaceValue _). IsResponse f (record { surface = v; number = s.number }) ask bytes) (sym same) response }

-- bytes that begin with all that they began with are those and more
pub begins : {A E : Type 0} (r : Result A E) (old new : List ℕ) → Extends old new → OnErr r ((more : List ℕ) × (new ≡ old ++ more))
begins (Ok x) old new kept = tt
begins (Err e) old new kept = let b = kept old (record { rest = []; whole = sym (append-nil old) }) in (b.rest, b.whole)

-- and bytes that stay are those and none
pub stay : {A E : Type 0} (r : Result A E) (old new : List ℕ) → new ≡ old → OnErr r ((more : List ℕ) × (new ≡ old ++ more))
stay (Ok x) old new same = tt
stay (Err e) old new same = ([], same ∙ sym (append-nil old))

-- a response after nothing stands alone
pub alone_of : {W : Type 0} (f : W → List ℕ → ℕ) (s : SourceValue W) (ask : Ask) (before after : List ℕ) → Responds f s ask before after → before ≡ [] → IsResponse f s ask after
alone_of f s ask before after r empty = subst (λ (b : List ℕ). IsResponse f s ask b) (sym (r.appended ∙ ap (λ (b : List ℕ). b ++ r.bytes) empty)) r.response

module _ {W : Type 0} (f : W → List ℕ → ℕ) (s : SourceValue W) (n most : ℕ) (before after : List ℕ) (known : knows s.surface n ≡ true) where
  -- what encoding the delta within a bound comes to
  delta_within : {E : Type 0} (r : Result Bool E) → IsBorne (sent_by s.number (delta_of s.surface n)) → IfOk r (λ within. EncodesWithin (bytes_of f s (delta_of s.surface n)) most before within after)
      → IfOk r (λ within. within ≡ true → IsSent (f s.surface.widths) (sent_by s.number (delta_of s.surface n))) → IfOk r (λ put. PutsDelta f s n most before put after)
  delta_within (Ok true) easy written sent = (known, written.1, easy, sent refl, written.0)
  delta_within (Ok false) easy written sent = (written.0, inr (inr (written.1, written.2)))
  delta_within (Err e) easy written sent = tt

  pub puts_delta : {E : Type 0} (r : Result Bool E) (given : AnswerValue) → given ≡ delta_of s.surface n → IsBorne (sent_by s.number given) → IfOk r (λ within. EncodesWithin (bytes_of f s given) most before within after)
      → IfOk r (λ within. within ≡ true → IsSent (f s.surface.widths) (sent_by s.number given)) → IfOk r (λ put. PutsDelta f s n most before put after)
  puts_delta r given is borne written sent =
      delta_within r
      (subst (λ (a : AnswerValue). IsBorne (sent_by s.number a)) is borne)
      (subst (λ (a : AnswerValue). IfOk r (λ within. EncodesWithin (bytes_of f s a) most before within after)) is written)
      (subst (λ (a : AnswerValue). IfOk r (λ within. within ≡ true → IsSent (f s.surface.widths) (sent_by s.number a))) is sent)

-- bytes that are kept are the repaint's
pub kept_repaint : {W : Type 0} (f : W → List ℕ → ℕ) (s : SourceValue W) (bytes : List ℕ) → HasRepaint f s bytes → (bytes ≡ [] → ⊥) → (bytes ≡ bytes_of f s (repaint_answer s.surface)) × IsSent (f s.surface.widths) (sent_by s.number (repaint_answer s.surface))
kept_repaint f s bytes (inl none) some = absurd (some none)
kept_repaint f s bytes (inr has) some = has

-- What contracts see of a source, and what it answers.
use Rattle.std.specs.Prelude.{◌≡◌, ◌⊎◌, ℕ, ◌+◌, ◌-◌, ◌*◌, ◌<◌, ◌≤◌, ◌^◌, ◌==◌, ◌&&◌, nat_le, Bool, true, false, List, ◌++◌, drop, length, max, if◌then◌else◌}
use Rattle.termwiz_screen.specs.FullScreen.{FullScreen, HasFullSize}
use Rattle.termwiz_screen.specs.Log.{delta_limit, next_number}
use Rattle.termwiz_screen.specs.Picture.{full_screens}
use Rattle.termwiz_surface.specs.Adding.{with_log}
use Rattle.termwiz_surface.specs.Answer.{AnswerValue, delta_of}
use Rattle.termwiz_surface.specs.Asking.{forgotten, knows, own_repaint}
use Rattle.termwiz_surface.specs.Carried.{CarriesTo, IsGivenBy, IsPastOf}
use Rattle.termwiz_surface.specs.Surface.{SurfaceValue, full_of}
use Rattle.termwiz_wire.specs.Sent.{IsSent, answer}
use Rattle.termwiz_wire.specs.Within.{IsBorne, answer_work}
use Rattle.termwiz_wire.specs.Work.{most_work, work_of}
use Rattle.termwiz_wire.specs.declared.sent.Ask.{Ask}
use Rattle.termwiz_wire.specs.declared.sent.SentAnswer.{SentAnswer}

pub record SourceValue (W : Type 0) : Type 0 where
  -- a full surface
  pub surface : SurfaceValue W
  -- the number that names it
  pub number : ℕ

-- bytes are written to the front of a buffer, unless it is shorter
abbrev pub WritesFront : List ℕ → List ℕ → ℕ → List ℕ → Type 0
WritesFront bytes old len new =
    (len ≡ length bytes) ×
    (len ≤ length old → new ≡ bytes ++ drop len old) ×
    (length old < len → new ≡ old)

-- an answer of this source
abbrev pub sent_by : ℕ → AnswerValue → SentAnswer
sent_by source a = record { source = source; answer = a }

-- how many bytes a delta has at most that is worth sending where a screen of this size could be
-- repainted
abbrev pub most_bytes : ℕ → ℕ → ℕ
most_bytes w h = 64 + 4 * (w * h)

-- the number of a source that an ask names, or 0 where it names none of this source
abbrev pub number_asked : ℕ → Ask → ℕ
number_asked source ask = if ask.source == source then ask.number else 0

module _ {W : Type 0} where
  -- a source that has this number
  abbrev pub source_of : ℕ → SurfaceValue W → SourceValue W
  source_of number surface = record { surface = surface; number = number }

  -- the surface without the changes that no answer needs
  abbrev pub trimmed_surface : SurfaceValue W → SurfaceValue W
  trimmed_surface s = with_log s (forgotten (delta_limit s.width s.height) s.log)

  -- its repaint
  abbrev pub repaint_answer : SurfaceValue W → AnswerValue
  repaint_answer s =
      record {
        width = s.width;
        height = s.height;
        base = 0;
        number = next_number s.log;
        changes = own_repaint s;
      }

  module _ (measure_of : W → List ℕ → ℕ) where
    -- an answer of the source as bytes
    abbrev pub bytes_of : SourceValue W → AnswerValue → List ℕ
    bytes_of s a = answer (measure_of s.surface.widths) (sent_by s.number a)

    -- a delta is appended, which has no more bytes than this and costs no more than the screen
    -- bears, or none is, since there is no such one
    abbrev pub PutsDelta : SourceValue W → ℕ → ℕ → List ℕ → Bool → List ℕ → Type 0
    PutsDelta s n most before true after =
        (knows s.surface n ≡ true) × (length (bytes_of s (delta_of s.surface n)) ≤ most) ×
        IsBorne (sent_by s.number (delta_of s.surface n)) ×
        IsSent (measure_of s.surface.widths) (sent_by s.number (delta_of s.surface n)) ×
        (after ≡ before ++ bytes_of s (delta_of s.surface n))
    PutsDelta s n most before false after =
        (after ≡ before) ×
        ((knows s.surface n ≡ false) ⊎
        (most_work s.surface.width s.surface.height <
        answer_work (sent_by s.number (delta_of s.surface n))) ⊎
        ((most < length (bytes_of s (delta_of s.surface n))) × (most < 2 ^ 64 - 1)))

    -- whether a delta is worth sending: it has few bytes, and the screen bears its changes
    abbrev pub is_worth : SourceValue W → AnswerValue → Bool
    is_worth s a =
        nat_le (length (bytes_of s a)) (most_bytes s.surface.width s.surface.height) &&
        nat_le (work_of a.width a.height a.changes) (most_work a.width a.height)

    -- the number is known, and what is due from it on is worth sending
    abbrev pub has_delta : SourceValue W → ℕ → Bool
    has_delta s n = knows s.surface n && is_worth s (delta_of s.surface n)

    -- what the source gives for a number
    abbrev pub given_for : SourceValue W → ℕ → AnswerValue
    given_for s n = if has_delta s n then delta_of s.surface n else repaint_answer s.surface

    -- the bytes that the source gives for an ask
    abbrev pub response_bytes : SourceValue W → Ask → List ℕ
    response_bytes s ask = bytes_of s (given_for s (number_asked s.number ask))

    -- the source gives this answer for a number, or for none
    pub record Answers (s : SourceValue W) (n : ℕ) (given : AnswerValue) : Type 0 where
      pub asked : ℕ
      pub from : (asked ≡ 0) ⊎ (asked ≡ n)
      pub is_given : IsGivenBy full_screens measure_of s.surface asked given
      pub sized : HasFullSize s.surface.width s.surface.height (full_of s.surface)
      -- a screen bounds it
      pub few :
          length (bytes_of s given) ≤ max (most_bytes s.surface.width s.surface.height)
          (length (bytes_of s (repaint_answer s.surface)))
      pub chosen : given ≡ given_for s n
      pub borne : IsBorne (sent_by s.number given)

    -- its bytes come after what the buffer had
    pub record PutsAnswer (s : SourceValue W) (n : ℕ) (before after : List ℕ) : Type 0 where
      pub given : AnswerValue
      pub answers : Answers s n given
      pub put : after ≡ before ++ bytes_of s given
      pub form : IsSent (measure_of s.surface.widths) (sent_by s.number given)

    -- the bytes are those of an answer for this ask: it leads to the full screen that the source
    -- has now, from the picture that the ask names or from none
    pub record IsResponse (s : SourceValue W) (ask : Ask) (bytes : List ℕ) : Type 0 where
      pub given : AnswerValue
      pub encoded : bytes ≡ bytes_of s given
      pub is_sent : IsSent (measure_of s.surface.widths) (sent_by s.number given)
      pub width : given.width ≡ s.surface.width
      pub height : given.height ≡ s.surface.height
      pub sized : HasFullSize given.width given.height (full_of s.surface)
      pub number : given.number ≡ next_number s.surface.log
      pub from : (given.base ≡ 0) ⊎ ((ask.source ≡ s.number) × (given.base ≡ ask.number))
      pub carries :
          (past : ℕ → FullScreen) → IsPastOf full_screens measure_of past s.surface →
          CarriesTo full_screens measure_of past given s.surface
      -- a screen bounds it
      pub few :
          length bytes ≤ max (most_bytes s.surface.width s.surface.height)
          (length (bytes_of s (repaint_answer s.surface)))
      -- and bears it
      pub borne : IsBorne (sent_by s.number given)

    -- the response comes after what the buffer had
    pub record Responds (s : SourceValue W) (ask : Ask) (before after : List ℕ) : Type 0 where
      pub bytes : List ℕ
      pub appended : after ≡ before ++ bytes
      pub response : IsResponse s ask bytes

-- What contracts see of a client, and what an answer makes of what it shows.
use Rattle.std.specs.Prelude.{◌≡◌, ℕ, ◌+◌, Bool, not, ◌&&◌, ◌||◌, ◌==◌, true, Option, None, List, [], length, if◌then◌else◌}
use Rattle.cbor.specs.Encoding.{unsigned}
use Rattle.termwiz_screen.specs.FullScreen.{FullScreen}
use Rattle.termwiz_screen.specs.Picture.{full_screens, played}
use Rattle.termwiz_surface.specs.Answer.{is_repaint, suits}
use Rattle.termwiz_surface.specs.Surface.{SurfaceValue, blank_surface, full_of}
use Rattle.termwiz_wire.specs.declared.fault.Limits.{Limits}
use Rattle.termwiz_wire.specs.declared.sent.Ask.{Ask}
use Rattle.termwiz_wire.specs.declared.sent.SentAnswer.{SentAnswer}
use Rattle.termwiz_share.specs.declared.error.ClientError.{ClientError}

pub record ClientValue (W : Type 0) : Type 0 where
  pub surface : SurfaceValue W
  -- the source that it shows, or 0, and the number of the answer that it took last
  pub source : ℕ
  pub number : ℕ
  -- the bytes that make no answer yet
  pub kept : List ℕ
  pub limits : Limits
  -- why it takes no more bytes
  pub stopped : Option ClientError

-- what it shows, without the rest
pub record DisplayValue (W : Type 0) : Type 0 where
  pub surface : SurfaceValue W
  pub source : ℕ
  pub number : ℕ

-- a full screen, and the source and the number that it has
pub record Shown : Type 0 where
  pub picture : FullScreen
  pub source : ℕ
  pub number : ℕ

module _ {W : Type 0} where
  abbrev pub display_of : ClientValue W → DisplayValue W
  display_of c = record { surface = c.surface; source = c.source; number = c.number }

  -- what a display shows
  abbrev pub shown_on : DisplayValue W → Shown
  shown_on d = record { picture = full_of d.surface; source = d.source; number = d.number }

  -- what a client shows
  abbrev pub shown_by : ClientValue W → Shown
  shown_by c = shown_on (display_of c)

  -- the ask of a client
  abbrev pub ask_of : ClientValue W → Ask
  ask_of c = record { source = c.source; number = c.number }

  -- the client keeps no bytes, and takes more
  pub record IsReady (c : ClientValue W) : Type 0 where
    pub kept : c.kept ≡ []
    pub reading : c.stopped ≡ None

  -- the width value, the limits and why it has stopped are as they were
  pub record SameSettings (old new : ClientValue W) : Type 0 where
    pub widths : new.surface.widths ≡ old.surface.widths
    pub limits : new.limits ≡ old.limits
    pub stopped : new.stopped ≡ old.stopped

-- default blanks, with the cursor home and shown, and nothing kept beside them: what a blank
-- surface shows, whatever its width value
abbrev pub blank_screen : ℕ → ℕ → FullScreen
blank_screen w h = full_of {W = ℕ} (blank_surface 0 w h true)

-- a repaint fits, and a delta that leads on from what is shown
abbrev pub fits : Shown → SentAnswer → Bool
fits s a = is_repaint a.answer || ((a.source == s.source) && (a.answer.base == s.number))

-- a delta fits, but has another size
abbrev pub has_other_size : Shown → SentAnswer → Bool
has_other_size s a =
    not (is_repaint a.answer) &&
    (fits s a && not (suits s.picture.screen.width s.picture.screen.height a.answer))

-- where its changes begin: a repaint begins with blanks
abbrev pub start : Shown → SentAnswer → FullScreen
start s a = if is_repaint a.answer then blank_screen a.answer.width a.answer.height else s.picture

-- what is shown after an answer, which changes nothing where it doesn't fit
abbrev pub shown_after : (List ℕ → ℕ) → Shown → SentAnswer → Shown
shown_after measure s a =
    if fits s a
    then
    record {
      picture = played full_screens measure (start s a) a.answer.changes;
      source = a.source;
      number = a.answer.number;
    }
    else s

-- where in an answer's bytes its size differs from the one that is shown: at its width, or else at
-- its height
abbrev pub size_place : Shown → SentAnswer → ℕ
size_place s a =
    2 + length (unsigned a.source) +
    (if s.picture.screen.width == a.answer.width then length (unsigned a.answer.width) else 0)

-- where in the bytes of an answer that doesn't fit what it leads on from differs from what is
-- shown: at its source, or else at its base
abbrev pub stale_place : Shown → SentAnswer → ℕ
stale_place s a =
    2 +
    (if a.source == s.source
    then
    length (unsigned a.source) +
    (length (unsigned a.answer.width) + length (unsigned a.answer.height))
    else 0)

-- What calls make of what a handle has, and of what they write.
use Rattle.std.specs.Prelude.{◌≡◌, ◌⊎◌, ℕ, ◌≤◌, ◌<◌, Ok, Err, Option, Some, None, List, ◌++◌, length, drop}
use Rattle.termwiz_line.specs.LineValue.{LineValue}
use Rattle.termwiz_share.specs.Client.{ClientValue}
use Rattle.termwiz_share.specs.Source.{SourceValue}
use Rattle.termwiz_surface.specs.Surface.{SurfaceValue}
use Rattle.tikeburo_c.specs.Kept.{lines_of, shown_of}
use Rattle.tikeburo_c.specs.Outcomes.{Outcome}
use Rattle.tikeburo_c.specs.declared.failure.Failure.{Failure}
use Rattle.tikeburo_c.specs.declared.failure.Failure.TheVariants.{Memory, NoHandle, WrongKind, Short}
use Rattle.tikeburo_c.specs.declared.followers.Follower.{Follower}
use Rattle.tikeburo_c.specs.declared.kept.Kept.{Kept}
use Rattle.tikeburo_c.specs.declared.kept.Kept.TheVariants.{Surface, Viewer, Client, Lines}
use Rattle.tikeburo_c.specs.declared.widths.ChosenWidths.{ChosenWidths}

-- the call failed so, and changed nothing
abbrev pub Refused : {A : Type 0} → Failure → A → Outcome → A → Type 0
Refused failure old outcome new = (outcome ≡ Err failure) × (new ≡ old)

-- this, unless memory was refused first, and nothing has changed
abbrev pub OrNoMemory : {A : Type 0} → (A → Outcome → A → Type 0) → A → Outcome → A → Type 0
OrNoMemory P old outcome new = Refused Memory old outcome new ⊎ P old outcome new

-- the call did this to the surface that the handle has
abbrev pub OnSurface :
    (SourceValue ChosenWidths → Outcome → SourceValue ChosenWidths → Type 0) → Option Kept →
    Outcome → Option Kept → Type 0
OnSurface P (Some (Surface old)) outcome (Some (Surface new)) = P old outcome new
OnSurface P (Some (Surface old)) outcome _ = ⊥
OnSurface P (Some (Viewer f)) outcome new = Refused WrongKind (Some (Viewer f)) outcome new
OnSurface P (Some (Client c)) outcome new = Refused WrongKind (Some (Client c)) outcome new
OnSurface P (Some (Lines l)) outcome new = Refused WrongKind (Some (Lines l)) outcome new
OnSurface P None outcome new = Refused NoHandle None outcome new

-- the call did this to the viewer that the handle has
abbrev pub OnViewer :
    (Follower → Outcome → Follower → Type 0) → Option Kept → Outcome → Option Kept → Type 0
OnViewer P (Some (Viewer old)) outcome (Some (Viewer new)) = P old outcome new
OnViewer P (Some (Viewer old)) outcome _ = ⊥
OnViewer P (Some (Surface s)) outcome new = Refused WrongKind (Some (Surface s)) outcome new
OnViewer P (Some (Client c)) outcome new = Refused WrongKind (Some (Client c)) outcome new
OnViewer P (Some (Lines l)) outcome new = Refused WrongKind (Some (Lines l)) outcome new
OnViewer P None outcome new = Refused NoHandle None outcome new

-- the call did this to the client that the handle has
abbrev pub OnClient :
    (ClientValue ChosenWidths → Outcome → ClientValue ChosenWidths → Type 0) → Option Kept →
    Outcome → Option Kept → Type 0
OnClient P (Some (Client old)) outcome (Some (Client new)) = P old outcome new
OnClient P (Some (Client old)) outcome _ = ⊥
OnClient P (Some (Surface s)) outcome new = Refused WrongKind (Some (Surface s)) outcome new
OnClient P (Some (Viewer f)) outcome new = Refused WrongKind (Some (Viewer f)) outcome new
OnClient P (Some (Lines l)) outcome new = Refused WrongKind (Some (Lines l)) outcome new
OnClient P None outcome new = Refused NoHandle None outcome new

-- the call did this to the client that the handle has, and to what else it writes
abbrev pub OnClientAnd :
    {A : Type 0} →
    (ClientValue ChosenWidths × A → Outcome → ClientValue ChosenWidths × A → Type 0) →
    Option Kept × A → Outcome → Option Kept × A → Type 0
OnClientAnd P (Some (Client c), old) outcome (Some (Client d), new) = P (c, old) outcome (d, new)
OnClientAnd P (Some (Client c), old) outcome _ = ⊥
OnClientAnd P (Some (Surface s), old) outcome new =
    Refused WrongKind (Some (Surface s), old) outcome new
OnClientAnd P (Some (Viewer f), old) outcome new =
    Refused WrongKind (Some (Viewer f), old) outcome new
OnClientAnd P (Some (Lines l), old) outcome new =
    Refused WrongKind (Some (Lines l), old) outcome new
OnClientAnd P (None, old) outcome new = Refused NoHandle (None, old) outcome new

-- the call did this to the lines that the handle has
abbrev pub OnLines :
    (List LineValue → Outcome → List LineValue → Type 0) → Option Kept → Outcome → Option Kept →
    Type 0
OnLines P (Some (Lines old)) outcome (Some (Lines new)) = P old outcome new
OnLines P (Some (Lines old)) outcome _ = ⊥
OnLines P (Some (Surface s)) outcome new = Refused WrongKind (Some (Surface s)) outcome new
OnLines P (Some (Viewer f)) outcome new = Refused WrongKind (Some (Viewer f)) outcome new
OnLines P (Some (Client c)) outcome new = Refused WrongKind (Some (Client c)) outcome new
OnLines P None outcome new = Refused NoHandle None outcome new

-- the call did this with what it takes of a handle, which others don't have
abbrev pub OfKind :
    {A B : Type 0} → (A → B → Outcome → B → Type 0) → Option A → B → Outcome → B → Type 0
OfKind P (Some s) = P s
OfKind P None = Refused WrongKind

-- the call read this of the surface that the handle has, or that its viewer or client shows
abbrev pub ReadsInto :
    {B : Type 0} → (SurfaceValue ChosenWidths → B → Outcome → B → Type 0) → Option Kept → B →
    Outcome → B → Type 0
ReadsInto P (Some kept) old outcome new = OfKind P (shown_of kept) old outcome new
ReadsInto P None old outcome new = Refused NoHandle old outcome new

-- the call read this of the lines that the handle has
abbrev pub ReadsLines :
    {B : Type 0} → (List LineValue → B → Outcome → B → Type 0) → Option Kept → B → Outcome → B →
    Type 0
ReadsLines P (Some kept) old outcome new = OfKind P (lines_of kept) old outcome new
ReadsLines P None old outcome new = Refused NoHandle old outcome new

-- the call returned this value
abbrev pub Returns : {B : Type 0} → B → B → Outcome → B → Type 0
Returns value old outcome new = (outcome ≡ Ok tt) × (new ≡ value)

-- a buffer of the caller's, and the length that stands beside it
abbrev pub Buffer : Type 0
Buffer = List ℕ × ℕ

-- the bytes are at the buffer's front, with their length, or the buffer is too short and has only
-- their length
abbrev pub GivesInto : List ℕ → Buffer → Outcome → Buffer → Type 0
GivesInto bytes old (Ok _) new =
    (length bytes ≤ length old.0) × (new.0 ≡ bytes ++ drop (length bytes) old.0) ×
    (new.1 ≡ length bytes)
GivesInto bytes old (Err Short) new =
    (length old.0 < length bytes) × (new.0 ≡ old.0) × (new.1 ≡ length bytes)
GivesInto bytes old (Err _) new = ⊥

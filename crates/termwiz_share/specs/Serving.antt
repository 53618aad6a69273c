-- Clients of a source.
use Rattle.std.specs.Prelude.{◌≡◌, ℕ, ◌≤◌, List}
use Rattle.termwiz_screen.specs.FullScreen.{FullScreen}
use Rattle.termwiz_screen.specs.Log.{next_number}
use Rattle.termwiz_screen.specs.Picture.{full_screens}
use Rattle.termwiz_surface.specs.Carried.{IsPastOf}
use Rattle.termwiz_surface.specs.History.{Names}
use Rattle.termwiz_surface.specs.Preserving.{Preserves}
use Rattle.termwiz_surface.specs.Surface.{full_of}
use Rattle.termwiz_share.specs.Client.{ClientValue}
use Rattle.termwiz_share.specs.Source.{SourceValue}

-- the client shows what the source shows, with its number
pub record ShowsSource {W : Type 0} (s : SourceValue W) (c : ClientValue W) : Type 0 where
  pub picture : full_of c.surface ≡ full_of s.surface
  pub source : c.source ≡ s.number
  pub number : c.number ≡ next_number s.surface.log

module _ {W : Type 0} (measure_of : W → List ℕ → ℕ) where
  -- the source measures as the client does, and has a past in which a client of it shows what its
  -- number names
  pub record Serves (s : SourceValue W) (c : ClientValue W) : Type 0 where
    pub past : ℕ → FullScreen
    pub is_past : IsPastOf full_screens measure_of past s.surface
    pub one_measure : measure_of c.surface.widths ≡ measure_of s.surface.widths
    pub not_ahead : c.source ≡ s.number → c.number ≤ next_number s.surface.log
    pub named : c.source ≡ s.number → Names past c.number (full_of c.surface)

  -- each client that the source served it serves still
  abbrev pub KeepsClients : SourceValue W → SourceValue W → Type 0
  KeepsClients old new = (c : ClientValue W) → Serves old c → Serves new c

  -- each source that served the client serves it still
  abbrev pub KeepsSources : ClientValue W → ClientValue W → Type 0
  KeepsSources old new = (s : SourceValue W) → Serves s old → Serves s new

  -- what each call preserves that changes a source, also where it fails: its number, each client
  -- that it served, and what its surface preserves
  pub record PreservesServing (old new : SourceValue W) : Type 0 where
    pub number : new.number ≡ old.number
    pub clients : KeepsClients old new
    pub surface : Preserves measure_of old.surface new.surface

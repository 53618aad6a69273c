-- What contracts see of a surface, and the form that it keeps.
use Rattle.std.specs.Prelude.{◌≡◌, ℕ, ◌<◌, ◌≤◌, ◌^◌, ◌⊎◌, max, Bool, true, false, Option, None, List, [], map, length, replicate, slice_index_or}
use Rattle.termwiz_cell.specs.Attributes.{Attributes, default_attributes}
use Rattle.termwiz_cell.specs.CellValue.{CellValue, blank}
use Rattle.termwiz_cell.specs.declared.change.CursorVisibility.{CursorVisibility}
use Rattle.termwiz_cell.specs.declared.change.CursorVisibility.TheVariants.{Visible}
use Rattle.termwiz_line.specs.Row.{row_of}
use Rattle.termwiz_cell.specs.declared.color.ColorAttribute.{ColorAttribute}
use Rattle.termwiz_cell.specs.declared.color.ColorAttribute.TheVariants.{Default}
use Rattle.termwiz_cell.specs.declared.change.CursorShape.{CursorShape}
use Rattle.termwiz_line.specs.LineFlags.{LineFlags, no_flags}
use Rattle.termwiz_screen.specs.FullScreen.{FullScreen, full_screen}
use Rattle.termwiz_screen.specs.Kept.{Kept}
use Rattle.termwiz_screen.specs.Log.{LogValue, next_number}
use Rattle.termwiz_screen.specs.Measured.{IsStored}
use Rattle.termwiz_screen.specs.Screen.{Screen, row_at}
use Rattle.termwiz_screen.specs.Step.{regions_fit}

pub record SurfaceValue (W : Type 0) : Type 0 where
  pub widths : W
  pub width : ℕ
  pub height : ℕ
  -- the stored cells of each row, and its flags
  pub lines : List (List CellValue)
  pub flags : List LineFlags
  pub x : ℕ
  pub y : ℕ
  pub visibility : CursorVisibility
  pub pen : Attributes
  pub title : List ℕ
  -- the cursor's shape, where one was set, and its colour
  pub shape : Option CursorShape
  pub color : ColorAttribute
  -- its repaints carry the title, the cursor's shape and colour and the sizes of lines too
  pub full : Bool
  pub log : LogValue
  -- the number of each row, which the surface had after the list that last touched it, and the one
  -- that rows get that the list under way touches
  pub numbers : List ℕ
  pub mark : ℕ

module _ {W : Type 0} where
  -- a surface of this size before any change: default blanks, with the cursor home and shown,
  -- default attributes as pen and the number 0; its repaints are full ones or not
  abbrev pub blank_surface : W → ℕ → ℕ → Bool → SurfaceValue W
  blank_surface widths width height full = record {
    widths = widths;
    width = width;
    height = height;
    lines = replicate height (replicate width blank);
    flags = replicate height no_flags;
    x = 0;
    y = 0;
    visibility = Visible;
    pen = default_attributes;
    title = [];
    shape = None;
    color = Default;
    full = full;
    log = record { first = 0; changes = [] };
    numbers = replicate height 0;
    mark = 0;
  }

  -- a blank surface with this number, which its rows have too
  abbrev pub blank_surface_from : W → ℕ → ℕ → Bool → ℕ → SurfaceValue W
  blank_surface_from widths width height full number =
      record (blank_surface widths width height full) {
        log = record { first = number; changes = [] };
        numbers = replicate height number;
        mark = number;
      }

  abbrev pub screen_of : SurfaceValue W → Screen
  screen_of s =
      record {
        width = s.width;
        height = s.height;
        rows = map (row_of s.width) s.lines;
        x = s.x;
        y = s.y;
        visibility = s.visibility;
        pen = s.pen;
      }

  -- how many cells are stored in each row
  abbrev pub lengths_of : SurfaceValue W → List ℕ
  lengths_of s = map length s.lines

  abbrev pub kept_of : SurfaceValue W → Kept
  kept_of s =
      record {
        lengths = lengths_of s;
        flags = s.flags;
        title = s.title;
        shape = s.shape;
        color = s.color;
      }

-- the full screen of a surface
abbrev pub full_of : {W : Type 0} → SurfaceValue W → FullScreen
full_of s = full_screen (screen_of s) (kept_of s)

-- the numbers of rows that have their own numbers and one for all
abbrev pub numbers_over : ℕ → List ℕ → List ℕ
numbers_over all own = map (max all) own

-- a width in columns and a height in rows that a surface may have
pub record IsSurfaceSize (width height : ℕ) : Type 0 where
  pub some_column : 0 < width
  pub some_row : 0 < height
  pub fits : width < 2 ^ 32
  pub fits_height : height < 2 ^ 32

-- the form that every surface keeps
pub record IsSound {W : Type 0} (measure : List ℕ → ℕ) (s : SurfaceValue W) : Type 0 where
  pub some_column : 0 < s.width
  pub some_row : 0 < s.height
  pub fits : s.width < 2 ^ 32
  pub fits_height : s.height < 2 ^ 32
  pub full : length s.lines ≡ s.height
  -- each row has flags
  pub sides : length s.flags ≡ s.height
  pub column : s.x ≤ s.width
  pub row : s.y < s.height
  pub stored_so : (j : ℕ) → j < s.height → IsStored measure s.width (row_at s.lines j)
  pub number_fits : next_number s.log < 2 ^ 64
  -- each scroll in the log has a region that lies on the surface
  pub regions : regions_fit s.height s.log.changes ≡ true

module _ {W : Type 0} where
  -- the same width value, size, kind and log
  pub record SameFrame (old new : SurfaceValue W) : Type 0 where
    pub widths : new.widths ≡ old.widths
    pub width : new.width ≡ old.width
    pub height : new.height ≡ old.height
    pub full : new.full ≡ old.full
    pub log : new.log ≡ old.log

  abbrev pub number_at : SurfaceValue W → ℕ → ℕ
  number_at s j = slice_index_or s.numbers j 0

  -- the cells that row j shows
  abbrev pub shown_at : SurfaceValue W → ℕ → List CellValue
  shown_at s j = row_of s.width (row_at s.lines j)

  -- row j shows its old cells, and has its old flags and number
  abbrev pub RowStays : SurfaceValue W → SurfaceValue W → ℕ → Type 0
  RowStays old new j =
      (shown_at new j ≡ shown_at old j)
      × (slice_index_or new.flags j no_flags ≡ slice_index_or old.flags j no_flags)
      × (number_at new j ≡ number_at old j)

  -- each row that is touched has the mark of the old surface as its number, unless its number was
  -- greater, and each other row stays
  pub record MarksRows (touched : ℕ → Bool) (old new : SurfaceValue W) : Type 0 where
    pub each :
        (j : ℕ) → j < old.height →
        ((touched j ≡ true) × (number_at new j ≡ max old.mark (number_at old j)))
        ⊎ ((touched j ≡ false) × RowStays old new j)

  -- the surface has this screen now, keeps this beside it, and has its old width value, size, kind
  -- and log; the rows that were touched are marked, and no others
  pub record Becomes (old : SurfaceValue W) (screen : Screen) (kept : Kept) (touched : ℕ → Bool)
      (new : SurfaceValue W) : Type 0 where
    pub widths : new.widths ≡ old.widths
    pub width : new.width ≡ old.width
    pub height : new.height ≡ old.height
    pub full : new.full ≡ old.full
    pub log : new.log ≡ old.log
    pub screen_is : screen_of new ≡ screen
    pub kept_is : kept_of new ≡ kept
    pub mark : new.mark ≡ old.mark
    pub rows : MarksRows touched old new

-- The flags of a line: its size, and what decides its direction.
use Rattle.std.specs.Prelude.{ℕ, ◌+◌, Bool, false, if◌then◌else◌, ◌==◌}
use Rattle.std.specs.Int.RustNames.{bit_and}

pub record LineFlags : Type 0 where
  pub bidi_enabled : Bool
  pub double_width : Bool
  pub double_height_top : Bool
  pub double_height_bottom : Bool
  pub right_to_left : Bool
  pub auto_detect : Bool

abbrev pub no_flags : LineFlags
no_flags =
    record {
      bidi_enabled = false;
      double_width = false;
      double_height_top = false;
      double_height_bottom = false;
      right_to_left = false;
      auto_detect = false;
    }

-- the flags whose bits a number has
abbrev pub flags_of : ℕ → LineFlags
flags_of n = record {
  bidi_enabled = bit_and n 1 == 1;
  double_width = bit_and n 16 == 16;
  double_height_top = bit_and n 32 == 32;
  double_height_bottom = bit_and n 64 == 64;
  right_to_left = bit_and n 128 == 128;
  auto_detect = bit_and n 256 == 256;
}

-- the number that has the bits of these flags alone
abbrev pub flag_bits : LineFlags → ℕ
flag_bits f =
    (if f.bidi_enabled then 1 else 0)
    + ((if f.double_width then 16 else 0)
    + ((if f.double_height_top then 32 else 0)
    + ((if f.double_height_bottom then 64 else 0)
    + ((if f.right_to_left then 128 else 0) + (if f.auto_detect then 256 else 0)))))

-- how large the cells are shown: twice as wide, and then also two rows high, of which this is the
-- upper or the lower one
abbrev pub with_sizes : Bool → Bool → Bool → LineFlags → LineFlags
with_sizes double_width top bottom f =
    record f { double_width = double_width; double_height_top = top; double_height_bottom = bottom }

abbrev pub with_direction : Bool → Bool → LineFlags → LineFlags
with_direction right_to_left auto f = record f { right_to_left = right_to_left; auto_detect = auto }

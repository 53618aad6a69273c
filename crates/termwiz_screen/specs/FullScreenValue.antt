-- What contracts see of a copied full screen.
use Rattle.std.specs.Prelude.{string_bytes}
use Rattle.termwiz_screen.specs.FullScreen.{FullScreen}
use Rattle.termwiz_screen.specs.ScreenValue.{screen_value}
use Rattle.termwiz_screen.specs.declared.full.FullScreen as code

abbrev pub full_value : code.FullScreen → FullScreen
full_value f =
    record {
      screen = screen_value f.screen;
      title = string_bytes f.title;
      shape = f.shape;
      color = f.color;
      lines = f.lines.items;
    }

-- How a region in code stands for one of the definitions.
use Rattle.termwiz_screen.specs.Diff.{Region}
use Rattle.termwiz_screen.specs.declared.diff.region.Region as code

abbrev pub region_value : code.Region → Region
region_value r =
    record {
      x = r.x;
      y = r.y;
      width = r.width;
      height = r.height;
      other_x = r.other_x;
      other_y = r.other_y;
    }

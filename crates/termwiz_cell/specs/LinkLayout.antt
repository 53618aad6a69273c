-- How the fields of a `Hyperlink` give the link.
use Rattle.std.specs.Prelude.{map, string_bytes}
use Rattle.termwiz_cell.specs.declared.hyperlink.Hyperlink.TheInside.{Inside}
use Rattle.termwiz_cell.specs.Link.{Link, param_bytes}

abbrev pub link_of : Inside → Link
link_of h =
    record {
      uri = string_bytes h.uri;
      params = map param_bytes h.params.entries;
      implicit = h.implicit;
    }

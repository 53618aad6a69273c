-- What a handle has.
use Rattle.std.specs.declared.option.Option.{Option}
use Rattle.tikeburo_c.specs.declared.handle.Handle.{Handle}
use Rattle.tikeburo_c.specs.declared.kept.Kept.{Kept}

-- the value that the handle has, if it has one
abbrev pub handle_value : Handle → Option Kept
handle_value handle = handle.loose.value

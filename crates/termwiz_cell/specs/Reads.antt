-- A reader's answer is the one right value, and None where there is none.
use Rattle.std.specs.Prelude.{◌≡◌, Option, Some, IfSome}

pub record Reads {T : Type 0} (result : Option T) (IsRight : T → Type 0) : Type 0 where
  pub found : IfSome result IsRight
  pub only : (value : T) → IsRight value → result ≡ Some value

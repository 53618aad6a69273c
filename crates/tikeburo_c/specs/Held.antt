-- What a loose handle owns: where it has a value, that value behind its pointer, and the right to
-- free its block.
use base.Fml.{Fml, ftrue}
use denote.RawPtr.{Ptr}
use Rattle.std.specs.Box.Ownership.{box_owns}
use Rattle.std.specs.contracts.impls.GlobalAllocator.TheImpl as heap
use Rattle.std.specs.declared.alloc.Global.{Global}
use Rattle.std.specs.declared.option.Option.{Option}
use Rattle.std.specs.declared.option.Option.TheVariants.{None, Some}
use Rattle.tikeburo_c.specs.contracts.kept.Kept as kept
use Rattle.tikeburo_c.specs.declared.kept.Kept.{Kept}
use Rattle.std.specs.declared.boxed.Box.{Box}
use Rattle.std.specs.Prelude.{Bool, true, false}

abbrev pub held : Global → Ptr → Option Kept → Fml
held alloc p (Some x) = box_owns (heap.ghosts.dealloc_token alloc) kept.the_row p x
held alloc p None = ftrue

abbrev pub is_some : Option Kept → Bool
is_some (Some x) = true
is_some None = false

abbrev pub in_box : Option (Box Kept Global) → Option Kept
in_box (Some b) = Some b.value
in_box None = None

-- `==` of changes decides whether their values are equal.
use Rattle.std.proofs.Common.{rules, ◌≡◌, ap}
use Rattle.std.specs.Prelude.{true, ◌&&◌}
use Rattle.std.specs.Bool.{Decides}
use Rattle.std.proofs.lemmas.Bool.Decides.{Decides-like, Decides-and}
use Rattle.termwiz_cell.specs.Link.{Link, link_eq, link_eq-Decides}
use Rattle.termwiz_cell.specs.Attributes.{attributes_eq, attributes_eq-Decides}
use Rattle.termwiz_cell.specs.AttributeChangeValue.{attribute_change_value}
use Rattle.termwiz_cell.specs.ChangeValue.{AllAttributes, CursorPosition, change_value}
use Rattle.termwiz_cell.specs.declared.cell.attribute_change.AttributeChange.{AttributeChange}
use Rattle.termwiz_cell.specs.declared.change.Change.{Change}
use Rattle.termwiz_cell.specs.declared.change.Change.TheVariants as code
use Rattle.termwiz_cell.specs.declared.change.Position.{Position}
use Rattle.termwiz_cell.specs.contracts.cell.attribute_change.AttributeChangePartialEq.TheImpl as attribute
use Rattle.termwiz_cell.specs.contracts.change.ChangePartialEq.TheImpl as change
use Rattle.termwiz_cell.specs.contracts.change.PositionPartialEq.TheImpl as position

link_true : (a b : Link) → link_eq a b ≡ true → a ≡ b
link_true a b = (link_eq-Decides a b).0

link_same : (a b : Link) → a ≡ b → link_eq a b ≡ true
link_same a b = (link_eq-Decides a b).1

pub attribute_decides : (a b : AttributeChange) → Decides (attribute.ghosts.eq a b) (attribute_change_value a ≡ attribute_change_value b)
attribute_decides a b = search (rules, link_true, link_same)

attribute_true : (a b : AttributeChange) → attribute.ghosts.eq a b ≡ true → attribute_change_value a ≡ attribute_change_value b
attribute_true a b = (attribute_decides a b).0

attribute_same : (a b : AttributeChange) → attribute_change_value a ≡ attribute_change_value b → attribute.ghosts.eq a b ≡ true
attribute_same a b = (attribute_decides a b).1

position_decides : (a b : Position) → Decides (position.ghosts.eq a b) (a ≡ b)
position_decides a b = search rules

pub change_decides : (a b : Change) → Decides (change.ghosts.eq a b) (change_value a ≡ change_value b)
change_decides (code.Attribute v) b = search (rules, attribute_true, attribute_same)
change_decides (code.AllAttributes a) (code.AllAttributes b) = Decides-like (attributes_eq a b) (ap AllAttributes) (λ e. cc) (attributes_eq-Decides a b)
change_decides (code.AllAttributes a) _ = ((λ e. cc), (λ e. cc))
change_decides (code.Text v) b = search rules
change_decides (code.ClearScreen v) b = search rules
change_decides (code.ClearToEndOfLine v) b = search rules
change_decides (code.ClearToEndOfScreen v) b = search rules
change_decides (code.CursorPosition x y) (code.CursorPosition z w) =
    Decides-like (position.ghosts.eq x z && position.ghosts.eq y w)
    (λ e i. CursorPosition (e.0 i) (e.1 i))
    (λ e. (cc, cc))
    (Decides-and (position.ghosts.eq x z) (position.ghosts.eq y w) (position_decides x z) (position_decides y w))
change_decides (code.CursorPosition x y) _ = ((λ e. cc), (λ e. cc))
change_decides (code.CursorColor v) b = search rules
change_decides (code.CursorShape v) b = search rules
change_decides (code.CursorVisibility v) b = search rules
change_decides (code.ScrollRegionUp f s n) b = search rules
change_decides (code.ScrollRegionDown f s n) b = search rules
change_decides (code.Title v) b = search rules
change_decides (code.LineAttribute v) b = search rules

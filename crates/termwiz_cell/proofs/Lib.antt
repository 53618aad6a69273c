pub mod Lists
pub mod Digits
pub mod PackedStyles
pub mod StyleSetters
pub mod PackedFallbacks
pub mod Boxes
pub mod PlainAttributes
pub mod TextForms
mod ColorPrinted
mod ColorRead
mod Readers
pub mod ParamLists
pub mod ParamOrder
pub mod PairTexts
pub mod LinkGrammar
pub mod LinkOutcomes
mod Selectors
pub mod PlainWidths
pub mod Cleaned
pub mod Graphemes
mod CursorPlaces

pub mod DigitLemmas
pub mod Steps
pub mod LiteralLemmas
pub mod LiteralRules
pub mod ArgumentRules
pub mod DirectiveRules

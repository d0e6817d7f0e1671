pub mod ArgumentLemmas
pub mod NumberLemmas
pub mod OutcomeLemmas
pub mod PlaceLemmas
pub mod RowLemmas
pub mod TokenLemmas

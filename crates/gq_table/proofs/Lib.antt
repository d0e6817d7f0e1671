pub mod Trees
pub mod SameLemmas
pub mod IndexLemmas
pub mod JsonLemmas

pub mod CodeLemmas
pub mod OrderLemmas
pub mod PutLemmas

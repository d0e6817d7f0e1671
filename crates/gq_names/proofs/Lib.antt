pub mod DigestLemmas
pub mod Enumerated
pub mod FirstLemmas
pub mod PlaceLemmas
pub mod RepeatLemmas
pub mod UnderLemmas

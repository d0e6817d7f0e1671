pub mod Renaming
pub mod Rewriting
pub mod Placing
pub mod RenamedValid
pub mod Merging
pub mod Cutting
pub mod RewrittenValid

mod Trees
mod Numbering
mod Below
mod Edited
mod Taken
mod Groups
mod Naming
mod Targeting
pub mod Anew
mod Standing
mod PreparedStanding
mod Answering
mod Propositions
mod Offering
mod Soundness
mod Passing
mod Responding
pub mod Solid
pub mod Whole
pub mod WholeTokens
pub mod EditsOfParts
mod LeadingBack
pub mod OneOffer
mod OneRename
mod SomeGroup
pub mod SomeOffer

pub mod Ends
pub mod Inbox
pub mod Jobs
pub mod Orders
pub mod Work

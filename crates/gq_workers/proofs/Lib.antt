pub mod Behind
pub mod Crossing
pub mod InboxMoves
pub mod JobMoves

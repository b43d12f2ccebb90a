pub mod Fields
pub mod Others
pub mod Replies
pub mod Kept
pub mod Polls
pub mod Runs
pub mod Sharp

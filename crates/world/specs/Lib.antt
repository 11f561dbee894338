pub mod Answer
pub mod Commits
pub mod Tracing

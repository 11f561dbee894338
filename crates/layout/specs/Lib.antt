-- where each field of a row stands; a state in bytes, and what bytes mean; what a step does to a lent buffer
pub mod Layout
pub mod Kinds
pub mod Image
pub mod Lent

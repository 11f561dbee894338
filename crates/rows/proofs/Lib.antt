pub mod Laws
pub mod Fields
pub mod Tables
pub mod Change
pub mod Held
pub mod Numbers
pub mod All
pub mod Row

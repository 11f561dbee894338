pub mod Bytes
pub mod Tests

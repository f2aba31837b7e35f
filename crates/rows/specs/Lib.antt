pub mod Rules
pub mod Tests
pub mod Fields
pub mod Unclosed

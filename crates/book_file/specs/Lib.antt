pub mod Commands
pub mod Changes
pub mod Tests
pub mod Law
pub mod Reading

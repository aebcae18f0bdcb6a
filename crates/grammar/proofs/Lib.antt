pub mod Tests
pub mod Reading
pub mod Words
pub mod Bodies
pub mod Lower
pub mod Lines
pub mod Printing
pub mod Examples

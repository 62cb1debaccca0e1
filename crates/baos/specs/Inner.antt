pub mod Gather
pub mod Cursors
pub mod Promise
pub mod Strings

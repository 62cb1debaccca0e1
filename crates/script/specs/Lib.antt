pub mod Line
pub mod View
pub mod Record

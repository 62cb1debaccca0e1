pub mod Event
pub mod Reply
pub mod Call
pub mod Promise
pub mod Numbers
pub mod Exported

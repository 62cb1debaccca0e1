pub mod Frame
pub mod Receiver
pub mod Record
pub mod Rules
pub mod Promise
pub mod Delivery
pub mod Burst

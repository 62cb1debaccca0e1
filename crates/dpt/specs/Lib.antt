pub mod TwoOctet
pub mod Single
pub mod Reply
pub mod Reading
pub mod Numbers

pub mod TwoOctetLaws
pub mod ReplyLaws

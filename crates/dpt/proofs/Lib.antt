pub mod Rounding
pub mod HundredthsLaws
pub mod Distance
pub mod ReadingLaws
pub mod NumberLaws
pub mod Types

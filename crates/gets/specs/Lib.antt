pub mod Measure
pub mod EntryLaws

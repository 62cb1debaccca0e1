pub mod Example
pub mod Needed
pub mod BurstsNeeded
pub mod CuttingNeeded

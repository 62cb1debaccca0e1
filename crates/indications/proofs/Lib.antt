pub mod SearchLaws
pub mod PassSteps

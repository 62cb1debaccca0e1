mod AskSteps
mod PassSteps
pub mod MeasureSteps

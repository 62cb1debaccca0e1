mod AskSteps
mod PassSteps

pub mod PieceLaws
pub mod LoopLaws
pub mod SumLaws

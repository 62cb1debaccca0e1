pub mod CaseLaws

pub mod Settable

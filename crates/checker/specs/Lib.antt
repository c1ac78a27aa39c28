pub mod Verdict
pub mod Looking

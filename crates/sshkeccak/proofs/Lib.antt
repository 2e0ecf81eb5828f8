pub mod Samples
pub mod SpongeLemmas

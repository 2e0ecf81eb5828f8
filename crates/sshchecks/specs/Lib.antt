-- What checks say.

pub mod Expected
pub mod Verdicts

pub mod DecisionLemmas
pub mod DecisionLaws

pub mod DrawnLemmas
pub mod FrameLemmas
pub mod StepLemmas
pub mod ChainLemmas
pub mod DirectionLemmas
pub mod RecordLemmas
pub mod PartsLemmas

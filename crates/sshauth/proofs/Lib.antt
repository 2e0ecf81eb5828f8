pub mod KeyLineLemmas
pub mod HostNameLemmas

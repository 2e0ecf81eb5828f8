pub mod Channels
pub mod Spelled
pub mod HostNames
pub mod PatternRows
pub mod KeyLines
pub mod Trust
pub mod Typed

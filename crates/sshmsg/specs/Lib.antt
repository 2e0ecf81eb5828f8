pub mod MessageData
pub mod Form
pub mod Lengths
pub mod Lists
pub mod Messages
pub mod Numbers
pub mod View
pub mod Written

pub mod Repeated
pub mod Keccak
pub mod Sponge
pub mod Padding
pub mod KeccakNumbers

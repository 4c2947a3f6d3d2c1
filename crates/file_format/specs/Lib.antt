pub mod Bytes
pub mod File
pub mod Scan
pub mod Held
pub mod Encode

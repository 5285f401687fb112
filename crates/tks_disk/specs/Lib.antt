pub mod DiskModel
pub mod Failing
pub mod FileDisk
pub mod Memory
pub mod MemorySide
pub mod Once
pub mod Trail

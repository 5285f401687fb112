-- The definitions that contracts cite.
pub mod Padding
pub mod Settings
pub mod Stretch
pub mod Packer
pub mod Packing
pub mod Requests
pub mod Notes
pub mod Shares
pub mod Laws
pub mod Meets
pub mod Numbers
pub mod Indexes

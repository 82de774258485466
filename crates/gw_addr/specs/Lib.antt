pub mod Reading
pub mod Appending
pub mod Text
pub mod Address
pub mod Mask
pub mod Station
pub mod Entry
pub mod internal

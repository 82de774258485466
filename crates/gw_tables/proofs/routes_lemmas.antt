pub mod Learning
pub mod Room
pub mod Order
pub mod Words
pub mod News

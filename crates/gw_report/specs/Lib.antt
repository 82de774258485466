pub mod Access
pub mod Report
pub mod page
pub mod points

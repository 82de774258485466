pub mod continuity
pub mod restoring
pub mod keeping

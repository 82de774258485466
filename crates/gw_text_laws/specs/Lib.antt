pub mod SingleRules
pub mod WithoutMacs
pub mod WithoutNeighbours

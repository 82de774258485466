pub mod AskText
pub mod assertions
pub mod regions
pub mod shapes

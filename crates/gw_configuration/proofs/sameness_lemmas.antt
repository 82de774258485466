pub mod SubnetLaw
pub mod RangesLaw

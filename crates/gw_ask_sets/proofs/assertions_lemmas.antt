pub mod AssertedLaw
pub mod AssertionLaw
pub mod ConditionLaw
pub mod GrowingLaw
pub mod JudgingLaw
pub mod NumberLaw
pub mod PassingLaw

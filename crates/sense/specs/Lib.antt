pub mod Answers
pub mod Sense
pub mod SenseLaws

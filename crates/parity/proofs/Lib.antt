pub mod OneAct
pub mod OneCall
pub mod Demand
pub mod Published

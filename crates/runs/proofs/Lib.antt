pub mod TurnLaws
pub mod Demand

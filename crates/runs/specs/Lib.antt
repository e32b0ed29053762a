pub mod Machine
pub mod Damage

pub mod RunLaws
pub mod Rules
pub mod PlaceLaws
pub mod WordNear
pub mod TableMoves
pub mod LentLaws

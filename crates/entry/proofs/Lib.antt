pub mod LentLaws
pub mod DecodeLaws
pub mod ServeLaws
pub mod Unique
pub mod RunLaws
pub mod RoomLaws

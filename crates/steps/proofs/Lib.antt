pub mod TakeLaws
pub mod SeenLaws
pub mod RestLaws
pub mod ItemLaws
pub mod Rules

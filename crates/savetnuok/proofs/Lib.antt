mod PlaceLaws
mod ReadLaws
mod RunLaws
mod RanLaws
mod ExportLaws
pub mod Sessions
pub mod Unique
pub mod WhyLaws

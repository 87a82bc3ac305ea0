mod WhyLaws
pub mod Laws
pub mod TrueLaws
pub mod PlaceTrue
mod Cases

mod CountLaws
mod PlaceLaws
pub mod Laws
mod Cases

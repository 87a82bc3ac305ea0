pub mod Base
pub mod CharLaws
mod LineLaws
mod FormedLaws
mod TrimLaws
mod EndLaws
mod LastLaws
mod DeleteLaws
pub mod Laws
mod Cases

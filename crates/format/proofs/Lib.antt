pub mod EndLaws

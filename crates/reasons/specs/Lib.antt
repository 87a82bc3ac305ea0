pub mod Why
pub mod Numbers
pub mod Rule
pub mod Cases

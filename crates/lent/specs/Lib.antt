pub mod Run
pub mod View
pub mod Wording
pub mod Loans

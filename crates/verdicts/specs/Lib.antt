pub mod Cases
pub mod Used
pub mod Rulings
pub mod Rules
pub mod Verdicts
pub mod Laws
pub mod Judgements

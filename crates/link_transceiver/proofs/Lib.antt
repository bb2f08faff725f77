pub mod Acknowledging
pub mod Aside
pub mod Handing
pub mod Holding
pub mod Keeping
pub mod Latest
pub mod Odds
pub mod Withholding

mod BookTurns
mod Refusals
mod Texts
mod Throwing
mod Charting
mod Tellings
pub mod WatchedPlays
mod Capturings
mod OutGoing
mod TermCaptures
mod OtherLinks
mod SetCaptures
mod SetClocks
mod SetOutGoing
mod SetCommands
mod CoveredPlays

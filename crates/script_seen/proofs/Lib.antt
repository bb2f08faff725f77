pub mod Showings
mod Items
mod Steps
mod Tellings
mod Tracings
mod ShownRuns
pub mod TracedRuns
mod Noticing
mod Watchings
pub mod WatchedRuns
mod LinkTraces
mod SetMessages
mod SetTraces

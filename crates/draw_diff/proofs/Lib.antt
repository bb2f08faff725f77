mod AlikeRuns
mod Moving
mod Tests

mod Looking
mod Naming
mod Offering
mod Opened
mod Passing
mod SmallSaves
mod TimerItems

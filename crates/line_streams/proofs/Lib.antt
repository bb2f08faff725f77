mod Ends
mod Exchanging
mod Recalling
mod Reporting
mod Tapped
mod Times
mod Waits
mod Watches

mod Asking
mod Building
mod Dots
mod Examples

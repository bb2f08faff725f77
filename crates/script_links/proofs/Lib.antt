mod GroupReadings
mod Readings
mod Spelled

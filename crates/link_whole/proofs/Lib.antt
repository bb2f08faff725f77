mod Consuming
mod Ending
mod Events
mod InputsAndSaves
mod Refusing
mod Whole

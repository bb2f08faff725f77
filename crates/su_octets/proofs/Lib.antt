pub mod BitLists
pub mod CheckLaws
pub mod FrameLaws
pub mod OctetSteps
pub mod OctetTexts
pub mod Registers
pub mod Remainders

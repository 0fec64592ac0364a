-- The floor as the code finds it, on plain values, and the cell's number in a key.
mod Held
mod Ceiling
mod Whole
mod Cases
mod Read
mod Swift
mod Close
pub mod Same
mod CaseN

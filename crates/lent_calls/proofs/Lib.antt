pub mod Pieces
pub mod Boxes
pub mod Again
pub mod FirstCall
pub mod SecondCall
pub mod Parted

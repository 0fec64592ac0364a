pub mod Districts

-- The laws of the route: its parts of the workspace, what each step keeps, how it begins, and its turns.
pub mod Sizes
pub mod Parts
pub mod Arranging
pub mod Planting
pub mod Keeping
pub mod Starting
pub mod Beginning
pub mod Filling
pub mod Handing
pub mod Taking
pub mod Choosing
pub mod Third
pub mod Turns

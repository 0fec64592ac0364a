-- The laws of owners: how many ends pass a test, the next owner of a group, the order and the groups of the ends, when two ends are alike, and the keys of the ends.
pub mod Tally
pub mod Next
pub mod Grouping
pub mod Seats
pub mod Turns
pub mod Likeness
pub mod Angles
pub mod Together

pub mod Totals
mod Having
mod Logging
mod Splitting
mod Noting
mod Closing
mod Taking
mod Giving
pub mod Extending

pub mod HexDigits
pub mod Digits
pub mod Tails

pub mod Judging
mod Left

pub mod Suspects

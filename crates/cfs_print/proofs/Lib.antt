mod Numbers
mod Reading
mod Lists
mod Parts
pub mod Told

pub mod Alike
pub mod Judged
pub mod Lists
pub mod Today

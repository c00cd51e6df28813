mod Keys
mod Whole

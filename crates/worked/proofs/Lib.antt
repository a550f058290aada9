mod Searching
mod Testing
mod Judging
mod Working
mod Settling

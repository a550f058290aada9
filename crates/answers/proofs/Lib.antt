mod Giving
mod Joining

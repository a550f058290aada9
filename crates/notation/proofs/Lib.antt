mod Sofar
mod Pieces
mod Stops

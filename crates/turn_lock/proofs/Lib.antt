mod Sums
mod Turning
mod Parting
mod Seating

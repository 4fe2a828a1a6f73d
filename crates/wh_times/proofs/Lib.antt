mod Halves
mod Longest
mod Summed

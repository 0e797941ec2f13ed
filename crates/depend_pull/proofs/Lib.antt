mod Members
mod PlaceLemmas
mod SeedOrder
mod Whole

mod Fills
mod Columns
mod Rounds
mod Ends
mod Alike

mod Steps
mod Skips

mod Enters
mod Counts
mod Places
mod Ends
mod Notes
mod Stands

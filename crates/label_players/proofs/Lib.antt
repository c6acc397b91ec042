mod Apart
mod Stopped
mod Counts
mod Splits
mod Labels
mod Enough
mod Outcomes

mod Notes
mod Outcomes

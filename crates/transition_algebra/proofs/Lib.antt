mod Images
mod Repeats
mod Counted
mod Claims
mod Steps
mod Within
mod Coming
mod Triples
mod Turning
mod Cost
mod Ready
mod Running
mod Runs
mod HeapRuns
mod Finished
mod Every
mod OneList
pub mod Results
pub mod Layouts
pub mod Fit

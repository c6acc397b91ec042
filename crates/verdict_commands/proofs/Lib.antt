mod Printed
mod InfiniteGiven
mod Joins
mod Given
mod Spelling
mod FaultyWords

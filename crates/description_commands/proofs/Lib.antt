mod Found
mod FoundIsomorphism
mod Images
mod Isomorphic
mod Joins
mod Monoid

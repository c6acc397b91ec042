mod Building
mod CodeLemmas
mod NumberLemmas
mod Reading
mod SearchLemmas
mod AskedFor

pub mod Reductions
pub mod Forms
pub mod Known
pub mod RuleTables

mod ApartLaws
pub mod HitLaws
pub mod SetLaws

pub mod Pieced
pub mod Few
pub mod InPlaceOf

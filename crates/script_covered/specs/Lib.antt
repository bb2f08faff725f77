pub mod Ways
pub mod OnWay
pub mod Covered
pub mod Lcov
pub mod Texts
pub mod Meant

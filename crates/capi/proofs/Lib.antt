pub mod Says
pub mod Walks
pub mod Lending
pub mod Groups

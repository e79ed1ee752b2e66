pub mod Services
pub mod Migrations
pub mod Reports
pub mod Walks

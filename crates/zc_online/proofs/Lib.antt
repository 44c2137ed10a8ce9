pub mod RunAt

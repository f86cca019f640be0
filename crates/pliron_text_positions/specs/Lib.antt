pub mod LineAndColumn

-- Stored words, and numbers compared with them.
pub mod Words

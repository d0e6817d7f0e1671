pub mod SchemaOf
pub mod SchemaResults

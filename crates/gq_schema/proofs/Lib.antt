pub mod SchemaLemmas
pub mod OneTypeSystem

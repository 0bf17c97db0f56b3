pub mod SpatialLaws
pub mod SpatialMaps

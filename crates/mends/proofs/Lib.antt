mod Asked
mod Bounds
mod LeastOfAll
mod MoreWithin
mod PickedSets
mod Searched
mod SearchesBegin

mod Keeping
mod Casting
mod ListingLaws
mod MarkingLaws
mod SweepLaws

-- What a call does to a device that is watched.
pub mod DeviceRefusals
pub mod Watched
pub mod Unsent
pub mod Gathering

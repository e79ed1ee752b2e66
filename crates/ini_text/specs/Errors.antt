-- Refusals: their messages, and what they are as errors of a device.
pub mod Messages
pub mod ErrorForms

pub mod TextKeys

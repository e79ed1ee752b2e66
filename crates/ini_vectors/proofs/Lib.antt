pub mod ReloadLemmas

-- What a scan of records keeps.
pub mod Scan

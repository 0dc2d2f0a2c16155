pub mod RecordLinks

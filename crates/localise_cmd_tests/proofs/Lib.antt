pub mod Everything

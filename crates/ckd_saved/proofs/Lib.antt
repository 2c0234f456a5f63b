pub mod VolumeCodes

-- The proofs of the readers of scanner files, and of the law of scans that come twice.
mod Again
mod AllRecords
mod ByFields
mod FirstRecord
mod SameScan
mod Whole

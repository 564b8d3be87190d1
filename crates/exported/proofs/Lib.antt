mod Verdicts
mod Filling
mod Findings
mod Decoding
mod Restoring
mod Parts
mod Shared

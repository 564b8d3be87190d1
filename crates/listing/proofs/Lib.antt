mod Pushed
mod Cuts
mod Meaning
mod Celled
mod Examples

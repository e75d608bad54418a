mod Casts
mod Fronts
mod Places
mod Entered
mod Records
mod Keeps

mod Places
mod Casts
mod Covering
mod Taken

mod Refused
mod Noted
mod Forgotten
mod Stated
mod Turned

mod Digits
mod Prefix
mod Ends
mod Spelt

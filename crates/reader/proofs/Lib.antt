mod Ends
mod Job

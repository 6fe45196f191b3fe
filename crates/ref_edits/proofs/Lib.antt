mod Changing
mod Saying

mod Row
mod Loop

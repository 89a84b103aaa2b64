mod Scores
mod Scoring

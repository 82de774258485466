mod CallLemmas
mod WordsLemmas

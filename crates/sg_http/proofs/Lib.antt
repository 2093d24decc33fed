mod SplitLemmas
mod HeadLemmas
mod NumeralLemmas
mod HearLemmas
mod ServeLemmas
mod LawLemmas

mod FrontLemmas
mod PiecesLemmas

pub mod PolynomialLemmas

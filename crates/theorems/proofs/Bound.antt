-- The bound of a pixel.
use native.Mathlib.Omega.{arith}
use Rattle.lights.specs.Lights.{light_of}
use Rattle.lights.proofs.Rising.{fit_facts}
use Rattle.bound.specs.Exact.{whole}
use Rattle.bound.proofs.Lights.{close_to_exact, exact-den, bound-den}
use Rattle.bound.proofs.Covers.{bound_le, bound_uncovered, bound_cover, byte_cover, none_after, level_after, exact_after_lem}
use Rattle.theorems.specs.Bound.{Bound}

pub bound : Bound
bound =
    record {
      close_to_exact = λ lights e. close_to_exact lights (fit_facts lights e);
      exact-den = λ lights u ts s. exact-den lights (whole (light_of lights u)) ts s (omega arith);
      bound-den = bound-den;
      bound_le = bound_le;
      bound_uncovered = bound_uncovered;
      bound_cover = bound_cover;
      byte_cover = λ lights e. byte_cover lights (fit_facts lights e);
      none_after = none_after;
      level_after = λ lights e. level_after lights (fit_facts lights e);
      exact_after_lem = exact_after_lem;
    }

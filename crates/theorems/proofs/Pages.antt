-- The page of a list.
use Rattle.drawing.proofs.Covers.{bound_all}
use Rattle.drawing.proofs.Codes.{codes-claim}
use Rattle.drawing.proofs.Accepted.{accepted_bound_since, accepted_page_since, accepted_margins_bound}
use Rattle.theorems.specs.Pages.{Pages}

pub pages : Pages
pages =
    record {
      bound_since = accepted_bound_since;
      page_since = accepted_page_since;
      bound_all = bound_all;
      margins_bound = accepted_margins_bound;
      codes-claim = λ s l r m. codes-claim s l;
    }

-- What the drawings of a list leave on a page of w by h (R7.5).
use Rattle.std.specs.Prelude.{cond, List, ℕ, ◌*◌, ◌%◌, ◌/◌, ltb}
use Rattle.page.specs.Page.{over}
use Rattle.bound.specs.Exact.{byte_after}
use Rattle.settings.specs.Drawing.{Drawing}
use Rattle.drawing.specs.Touches.{touches_at}

-- byte y·w + x is what the touches of (x, y) leave of the background b; each byte past w·h is kept
unfoldable pub drawn_page : List ℕ → ℕ → ℕ → ℕ → List Drawing → List ℕ → List ℕ
drawn_page lights w h b ds = over (λ k u. cond (ltb k (w * h)) (byte_after lights b (touches_at ds (k % w) (k / w))) u)

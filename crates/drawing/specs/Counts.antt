-- How many touches the drawings of a list, and those of each player, make on a page of w by h (R6.4).
use Rattle.std.specs.Prelude.{cond, List, [], ◌∷◌, ℕ, ◌≡◌, eqb, length}
use Rattle.numbers.specs.Sum.{sum_to, total}
use Rattle.touches.specs.Touch.{touch_count}
use Rattle.settings.specs.Drawing.{Drawing}
use Rattle.drawing.specs.Touches.{touches_at}

-- the pixels that a drawing touches
abbrev pub drawing_count : ℕ → ℕ → Drawing → ℕ
drawing_count w h d = touch_count w h d.settings.clip d.shape

-- the touched count: the sum, over the shapes, of the pixels that each touches
abbrev pub shapes_count : ℕ → ℕ → List Drawing → ℕ
shapes_count w h = total (drawing_count w h)

-- the same touches summed over all pixels
unfoldable pub pixels_count : ℕ → ℕ → List Drawing → ℕ
pixels_count w h ds = sum_to h (λ y. sum_to w (λ x. length (touches_at ds x y)))

-- ---- by player

-- the drawings that player p owns
unfoldable pub own_of : ℕ → List Drawing → List Drawing
own_of p [] = []
own_of p (d ∷ ds) = cond (eqb d.settings.player p) (d ∷ own_of p ds) (own_of p ds)

-- eight numbers, that of player 0 first
abbrev pub by_player : (ℕ → ℕ) → List ℕ
by_player n = n 0 ∷ n 1 ∷ n 2 ∷ n 3 ∷ n 4 ∷ n 5 ∷ n 6 ∷ n 7 ∷ []

-- what is counted of each player's own drawings
abbrev pub player_counts : (List Drawing → ℕ) → List Drawing → List ℕ
player_counts count ds = by_player (λ p. count (own_of p ds))

-- n on player 0, nothing on the others
abbrev pub on_first : ℕ → List ℕ
on_first n = n ∷ 0 ∷ 0 ∷ 0 ∷ 0 ∷ 0 ∷ 0 ∷ 0 ∷ []

-- ts are the counts of the drawings ds of a list of version v
pub record Counted (v w h : ℕ) (ds : List Drawing) (ts : List ℕ) : Type 0 where
  -- each is the sum, over the player's own shapes, of the pixels that each touches
  pub shapes : ts ≡ player_counts (shapes_count w h) ds
  -- and equals the touches of these shapes summed over all pixels
  pub pixels : ts ≡ player_counts (pixels_count w h) ds
  -- together they are the touches of all shapes, over the shapes and over all pixels
  pub sum : total (λ n. n) ts ≡ shapes_count w h ds
  pub sum-pixels : total (λ n. n) ts ≡ pixels_count w h ds
  -- in version 1 all is on player 0
  pub first : v ≡ 1 → ts ≡ on_first (shapes_count w h ds)

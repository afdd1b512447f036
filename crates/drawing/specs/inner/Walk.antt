-- What the functions within say of a list that is drawn record by record.
use Rattle.std.specs.Prelude.{◌≡◌, List, [], ◌∷◌, ℕ, ◌*◌, ◌%◌, ◌/◌, ◌≤◌, ◌<◌}
use Rattle.limits.specs.Limits.{shape_refusal}
use Rattle.shapes.specs.declared.Basis.{Basis}
use Rattle.shapes.specs.declared.Clip.{Clip}
use Rattle.page.specs.Page.{over}
use Rattle.lists.specs.inner.Walk.{players_in, Walkable}
use Rattle.bound.specs.Exact.{byte_after}
use Rattle.touches.specs.Touch.{page_after}
use Rattle.settings.specs.Drawing.{Drawing}
use Rattle.drawing.specs.Touches.{touches_at}
use Rattle.drawing.specs.Counts.{shapes_count, player_counts}
use Rattle.settings.specs.declared.Settings.{Settings}

abbrev pub settings_of : Clip → ℕ → ℕ → Settings
settings_of c v p = record { clip = c; level = v; player = p }

-- the page l after one shape upon the other
unfoldable pub shapes_page : List ℕ → ℕ → List Drawing → List ℕ → List ℕ
shapes_page lights w [] l = l
shapes_page lights w (d ∷ ds) l = shapes_page lights w ds (page_after lights w d.settings.clip d.settings.level d.shape l)

-- every byte of a page as the touches of its pixel leave the background b
unfoldable pub touched_page : List ℕ → ℕ → ℕ → List Drawing → List ℕ → List ℕ
touched_page lights w b ds = over (λ k _. byte_after lights b (touches_at ds (k % w) (k / w)))

-- every level is a byte, every player is one of version v, and no shape has a refusal
unfoldable pub AllLawful : ℕ → List Drawing → Type 0
AllLawful v [] = Unit {0}
AllLawful v (d ∷ ds) = (d.settings.level ≤ 255) × (d.settings.player < players_in v) × (shape_refusal d.shape ≡ 0) × AllLawful v ds

-- an accepted list s, and a page for it in size bytes
pub record Drawable (s : List ℕ) (b : Basis) (size : ℕ) : Type 0 where
  pub walk : Walkable s b
  pub room : b.w * b.h ≤ size

-- drawings ds, one upon the other in some lights on a page that was l, leave m and touch t pixels
pub record ShapesDrawn (lights : List ℕ) (b : Basis) (ds : List Drawing) (l m : List ℕ) (t : ℕ) : Type 0 where
  pub page : m ≡ shapes_page lights b.w ds l
  pub count : t ≡ shapes_count b.w b.h ds

-- lawful drawings ds do so, and touch ts pixels by player
pub record ListDrawn (lights : List ℕ) (b : Basis) (ds : List Drawing) (l m ts : List ℕ) : Type 0 where
  pub page : m ≡ shapes_page lights b.w ds l
  pub counts : ts ≡ player_counts (shapes_count b.w b.h) ds
  pub lawful : AllLawful b.version ds

-- and on a background, which is a byte
pub record ListPainted (lights : List ℕ) (b : Basis) (background : ℕ) (ds : List Drawing) (l m ts : List ℕ) : Type 0 where
  pub page : m ≡ touched_page lights b.w background ds l
  pub counts : ts ≡ player_counts (shapes_count b.w b.h) ds
  pub lawful : AllLawful b.version ds
  pub byte : background ≤ 255

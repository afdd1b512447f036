-- A page drawn pixel by pixel by any ink: of a page of width w, pixel (x, y) is byte y·w + x.
use Rattle.std.specs.Prelude.{cond, ◌&&◌, ◌≡◌, List, ℕ, ◌+◌, ◌-◌, ◌*◌, ◌/◌, ◌%◌, ◌≤◌, ◌<◌, min, max, ltb, leb}
use Rattle.numbers.specs.inner.Offset.{origin}
use Rattle.numbers.specs.Sum.{sum_to}
use Rattle.page.specs.Page.{over}
use Rattle.page.specs.declared.View.{View}

-- the byte u of a pixel of coverage n after a shape with an ink: kept where n is 0
unfoldable pub dot : (ℕ → ℕ → ℕ) → ℕ → ℕ → ℕ
dot ink n u = cond (ltb 0 n) (ink n u) u

-- 1 for a pixel of coverage n that is touched, else 0
abbrev pub touch : ℕ → ℕ
touch n = min n 1

-- the coverage n under a clip: 0 outside x0 ≤ x < x1 and y0 ≤ y < y1
unfoldable pub clipped : ℕ → ℕ → ℕ → ℕ → (ℕ → ℕ → ℕ) → ℕ → ℕ → ℕ
clipped x0 y0 x1 y1 n x y = cond (leb x0 x && ltb x x1 && leb y0 y && ltb y y1) (n x y) 0

-- a page of width w after a shape with an ink whose coverage at (x, y) is n x y
unfoldable pub painted : ℕ → (ℕ → ℕ → ℕ) → (ℕ → ℕ → ℕ) → List ℕ → List ℕ
painted w ink n = over (λ k. dot ink (n (k % w) (k / w)))

-- how many pixels of a page of width w and height h the coverage n touches
unfoldable pub touches : ℕ → ℕ → (ℕ → ℕ → ℕ) → ℕ
touches w h n = sum_to h (λ y. sum_to w (λ x. touch (n x y)))

-- a page of w by h pixels lies in size bytes, and the clip lies on the page
pub record Lawful (view : View) (size : ℕ) : Type 0 where
  pub w-least : 0 < view.w
  pub w-most : view.w ≤ 1024
  pub h-most : view.h ≤ 1024
  pub room : view.h * view.w ≤ size
  pub x-order : view.x0 ≤ view.x1
  pub x-most : view.x1 ≤ view.w
  pub y-order : view.y0 ≤ view.y1
  pub y-most : view.y1 ≤ view.h

-- a coverage under a view's clip
abbrev pub in_view : View → (ℕ → ℕ → ℕ) → ℕ → ℕ → ℕ
in_view view n = clipped view.x0 view.y0 view.x1 view.y1 n

-- a page of w by h pixels was l and is m after a shape, which touched t pixels
pub record Drawn (w h : ℕ) (ink : ℕ → ℕ → ℕ) (n : ℕ → ℕ → ℕ) (l m : List ℕ) (t : ℕ) : Type 0 where
  pub page : m ≡ painted w ink n l
  pub count : t ≡ touches w h n

-- so it is within a view's clip
abbrev pub DrawnIn : View → (ℕ → ℕ → ℕ) → (ℕ → ℕ → ℕ) → List ℕ → List ℕ → ℕ → Type 0
DrawnIn view ink n = Drawn view.w view.h ink (in_view view n)

-- columns a to b of row y hold the level v: they are drawn by every ink that leaves v at a whole coverage d
abbrev pub Filled : ℕ → ℕ → ℕ → ℕ → ℕ → ℕ → List ℕ → List ℕ → ℕ → Type 0
Filled w h v y a b l m t =
    (ink : ℕ → ℕ → ℕ) (d : ℕ) → 0 < d → ((u : ℕ) → ink d u ≡ v) → Drawn w h ink (clipped a y b (y + 1) (λ _ _. d)) l m t

-- the column or row of an offset, clamped to lo to hi
abbrev pub clamped : ℕ → ℕ → ℕ → ℕ
clamped lo hi c = min hi (max lo (c - origin))

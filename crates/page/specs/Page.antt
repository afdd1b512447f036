-- A page drawn pixel by pixel: of a page of width w, pixel (x, y) is byte y·w + x (R1.2).
use Rattle.std.specs.Prelude.{List, [], ◌∷◌, ℕ, suc}

-- the list whose element k is f k of l's element k
unfoldable pub over : (ℕ → ℕ → ℕ) → List ℕ → List ℕ
over f [] = []
over f (u ∷ l) = f 0 u ∷ over (λ k. f (suc k)) l
